-- What a line's record leaves used is within the output, and a full one had fewer than seven bytes left.
use mathlib.Core.Path.{◌≡◌, refl, sym, ap, ◌∙◌}
use mathlib.Core.Bool.{Bool, true, false, cond}
use mathlib.Core.List.{List}
use Prim.Native.Nat.{ℕ, ◌+◌, ◌≤◌, ◌<◌}
use native.Mathlib.Omega.{arith}
use lib.ListN.{length, set}
use lib.Dec.{ltb, eqb}
use borrow.Author.Tests.{ltb-true, eqb-true}
use Rattle.std.proofs.Common.{Ok, Err}
use Rattle.notation.specs.Lines.{Said as LineSaid, line_of}
use Rattle.notation.specs.declared.Line.TheVariants.{Blank, Event, Byte}
use Rattle.writer.specs.Bytes.{record_of}
use Rattle.writer.specs.Writing.{Used, X, unwritten, write}
use Rattle.writer.proofs.Judged.{fitting}
use Rattle.script.specs.Recording.{Recorded, answered, write_byte, recorded, record_line}
use Rattle.script.specs.declared.Problem.TheVariants.{Full}
use Rattle.script.proofs.Claims.{only_room}

reaches : (l : LineSaid) (out : List ℕ) (used next : ℕ) → (recorded l out used).0 ≡ Ok next → used ≤ length out → next ≤ length out
unfolding write write_byte
reaches (Ok Blank) out used next e h = let same : used ≡ next = cc in omega arith
reaches (Ok (Event v)) out used next e h = by (eqb (unwritten (length out) used v) 0) refl e
  where
    by : (x : Bool) → eqb (unwritten (length out) used v) 0 ≡ x
        → answered (cond x (Used (used + length (record_of v))) (X (unwritten (length out) used v))) ≡ Ok next → next ≤ length out
    by true z q =
        let same : used + length (record_of v) ≡ next = cc in
        let fits = fitting (length out) used v (eqb-true (unwritten (length out) used v) 0 z) in
        omega (arith, same)
    by false z q = let apart : ◌≡◌ {A = ℕ} 0 1 = cc in absurd (omega arith)
reaches (Ok (Byte b)) out used next e h = by (ltb used (length out)) refl e
  where
    by : (x : Bool) → ltb used (length out) ≡ x → (cond {A = Recorded × List ℕ} x (Ok (used + 1), set out used b) (Err Full, out)).0 ≡ Ok next
        → next ≤ length out
    by true z q = let same : used + 1 ≡ next = cc in let k = ltb-true used (length out) z in omega arith
    by false z q = let apart : ◌≡◌ {A = ℕ} 0 1 = cc in absurd (omega arith)
reaches (Err expected) out used next e h = let apart : ◌≡◌ {A = ℕ} 0 1 = cc in absurd (omega arith)

module _ (line out out' : List ℕ) (used : ℕ) (r : Recorded) (said : (r, out') ≡ record_line line out used) where
  first : (record_line line out used).0 ≡ r
  first = sym (ap (λ (p : Recorded × List ℕ). p.0) said)

  pub within : (next : ℕ) → r ≡ Ok next → used ≤ length out → next ≤ length out
  unfolding record_line
  within next e h = reaches (line_of line) out used next (first ∙ e) h

  pub almost_full : r ≡ Err Full → length out < used + 7
  almost_full e = only_room line out used (first ∙ e)
