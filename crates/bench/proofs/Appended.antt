-- What is written appends at most seven bytes: the answer is a number of bytes used only where no number refuses.
use mathlib.Core.Path.{◌≡◌, ap}
use mathlib.Core.List.{List}
use Prim.Native.Nat.{ℕ, ◌+◌, ◌-◌, ◌≤◌}
use native.Mathlib.Omega.{arith}
use lib.ListN.{length}
use Rattle.rules.specs.declared.Event.{Event}
use Rattle.writer.specs.Bytes.{record_of}
use Rattle.writer.specs.Writing.{Said, Used, unwritten, write}
use Rattle.writer.proofs.Judged.{used_tells}
use Rattle.writer.proofs.Lengths.{at_most-seven}

pub appended : (b b' : List ℕ) (used next : ℕ) (e : Event) → (Used next, b') ≡ write b used e → (used ≤ next) × (next - used ≤ 7)
unfolding write
appended b b' used next e h =
    let n = (used_tells (unwritten (length b) used e) (used + length (record_of e)) next (ap (λ (p : Said × List ℕ). p.0) h)).1 in
    let seven = at_most-seven e in
    (omega (arith, n), omega (arith, n, seven))
