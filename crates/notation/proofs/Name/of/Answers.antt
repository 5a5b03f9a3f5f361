-- The longer names, by their characters.
use Rattle.std.proofs.Common.{rules, arith, ◌≡◌}
use Rattle.std.proofs.lemmas.Slice.Eq.{text_from_reads}
use Rattle.lines.specs.Chars.{chars}
use Rattle.notation.proofs.Name.of.Goals as goal

pub returns-in-reference : goal.returns-in-reference
returns-in-reference c =
    let e : c.args.word.now ≡ chars "reference" = text_from_reads _ _ (omega arith) (search rules) in
    rw e

pub returns-in-instruction : goal.returns-in-instruction
returns-in-instruction c =
    let e : c.args.word.now ≡ chars "instruction" = text_from_reads _ _ (omega arith) (search rules) in
    rw e

pub returns-in-interrupt : goal.returns-in-interrupt
returns-in-interrupt c =
    let e : c.args.word.now ≡ chars "interrupt" = text_from_reads _ _ (omega arith) (search rules) in
    rw e

pub returns-in-change : goal.returns-in-change
returns-in-change c =
    let e : c.args.word.now ≡ chars "change" = text_from_reads _ _ (omega arith) (search rules) in
    rw e
