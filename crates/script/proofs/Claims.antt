-- A line is refused by no number but 14, and its record has at most seven bytes.
use mathlib.Core.Path.{◌≡◌, refl}
use mathlib.Core.Bool.{Bool, true, false}
use mathlib.Core.List.{List}
use Prim.Native.Nat.{ℕ, ◌+◌, ◌≤◌, ◌<◌}
use native.Mathlib.Omega.{arith}
use lib.ListN.{length}
use lib.Dec.{ltb}
use borrow.Author.Tests.{ltb-true, ltb-false, lt-ltb}
use Rattle.notation.specs.Lines.{line_of}
use Rattle.std.proofs.Common.{Ok, Err}
use Rattle.notation.specs.Lines.{Said}
use Rattle.notation.specs.declared.Line.TheVariants.{Blank, Event, Byte}
use Rattle.writer.specs.Writing.{write}
use Rattle.writer.proofs.Judged.{accepted}
use Rattle.writer.proofs.Lengths.{at_most-seven}
use Rattle.script.specs.Recording.{write_byte, recorded, record_line}
use Rattle.script.specs.Claims.{LineFits, OnlyRoom}
use Rattle.script.specs.declared.Problem.TheVariants.{Full}
use Rattle.script.proofs.Fitting.{Fits, line-fits}

pub line_fits : LineFits
line_fits line e h = rw h at (line-fits line)

-- with seven bytes left, no line is too long
roomy : (l : Said) (out : List ℕ) (used : ℕ) → Fits l → used + 7 ≤ length out → (recorded l out used).0 ≡ Err Full → ⊥
unfolding write write_byte
roomy (Ok Blank) out used f h e = let apart : ◌≡◌ {A = ℕ} 0 1 = cc in omega arith
roomy (Ok (Event v)) out used f h e =
    let seven = at_most-seven v in
    let said = rw (accepted (length out) used v f (omega arith)) at e in
    let apart : ◌≡◌ {A = ℕ} 0 1 = cc in omega arith
roomy (Ok (Byte b)) out used f h e =
    let said = rw (lt-ltb used (length out) (omega arith)) at e in
    let apart : ◌≡◌ {A = ℕ} 0 1 = cc in omega arith
roomy (Err expected) out used f h e = let apart : ◌≡◌ {A = ℕ} 0 1 = cc in omega arith

pub only_room : OnlyRoom
unfolding record_line
only_room line out used e = by (ltb (length out) (used + 7)) refl
  where
    by : (x : Bool) → ltb (length out) (used + 7) ≡ x → length out < used + 7
    by true h = ltb-true (length out) (used + 7) h
    by false h = absurd (roomy (line_of line) out used (line-fits line) (ltb-false (length out) (used + 7) h) e)
