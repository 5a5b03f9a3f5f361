-- The report has room in the buffer, and it is what is written.
use Rattle.std.proofs.Common.{ℕ, ◌≡◌, ◌≤◌, List, length, take, drop, ap, ◌∙◌, arith, le-ltb, Result}
use Rattle.std.specs.declared.option.Option.{Option}
use Rattle.std.specs.Option.{unwrap_or}
use Rattle.std.proofs.Math.Seq.{take-append_seam}
use Rattle.account.specs.declared.Report.{Report}
use Rattle.rules.specs.declared.Refusal.{Refusal}
use Rattle.wording.specs.Texts.{text_of, placed_of}
use Rattle.audit.proofs.tell.Goals as goal

written :
    (out after : List ℕ) (o : Option ℕ) (a : Result Report Refusal) → 320 ≤ length out → (o, after) ≡ placed_of out a
    → take (unwrap_or o 0) after ≡ text_of a
unfolding placed_of
written out after o a h e =
    ap (λ (w : Option ℕ × List ℕ). take (unwrap_or w.0 0) w.1) e ∙ rw (le-ltb (length out) 320 h) (take-append_seam (text_of a) (drop (length (text_of a)) out))

pub returns : goal.returns
returns g c =
    let w = written _ c.write.new.out c.write.result _ (omega arith) c.write.ensures.0 in
    rw (c.unwrap_or-n.ensures, w, c.finish.ensures) at c.write_all.ensures.bytes
