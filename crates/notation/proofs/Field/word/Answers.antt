-- The longer words, by their characters.
use Rattle.std.proofs.Common.{rules, arith, ◌≡◌}
use Rattle.std.proofs.lemmas.Slice.Eq.{text_from_reads}
use Rattle.lines.specs.Chars.{chars}
use Rattle.notation.proofs.Field.word.Goals as goal

pub returns-in-supervisor : goal.returns-in-supervisor
returns-in-supervisor c =
    let e : c.args.word.now ≡ chars "supervisor" = text_from_reads _ _ (omega arith) (search rules) in
    rw (c.in-Mode.is, e)

pub returns-in-instruction : goal.returns-in-instruction
returns-in-instruction c =
    let e : c.args.word.now ≡ chars "instruction" = text_from_reads _ _ (omega arith) (search rules) in
    rw (c.in-Space.is, e)

pub returns-in-instruction-word : goal.returns-in-instruction-word
returns-in-instruction-word c =
    let e : c.args.word.now ≡ chars "instruction" = text_from_reads _ _ (omega arith) (search rules) in
    rw (c.in-Phase.is, e)
