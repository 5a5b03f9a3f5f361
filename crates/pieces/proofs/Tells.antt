-- Which records are to be told of, by the tests that come before them; and what it says of the bytes that none is left.
use Rattle.std.proofs.Common.{Ok, None}
use mathlib.Core.Path.{◌≡◌, refl}
use mathlib.Core.Bool.{Bool, true, false, ◌||◌}
use mathlib.Core.List.{List}
use Prim.Native.Nat.{ℕ, ◌-◌, ◌≤◌}
use native.Mathlib.Omega.{arith}
use lib.ListN.{length}
use borrow.Author.Tests.{eq-eqb, ne_eqb}
use Rattle.rules.specs.declared.Refusal.TheVariants.{Store}
use Rattle.records.specs.Bytes.{byte_at}
use Rattle.records.specs.Recordings.{end, refusal}
use Rattle.records.proofs.Laws.{at-end, at-unknown, at_cut, at-whole}
use Rattle.records.proofs.Parts.{Stands, none, unknown, cut, whole, body_most}
use Rattle.pieces.specs.Limit.{seen_at}
use Rattle.pieces.specs.Begun.{records_in, to_tell}
use Rattle.pieces.specs.declared.Begun.{Begun}

module _ (b : Begun) (piece : List ℕ) (last : Bool) (l : List ℕ) where
  pub tells_none : b.over ≡ true → to_tell b piece last l ≡ end
  unfolding to_tell
  tells_none h = rw h

  pub tells-store : b.over ≡ false → (length l ≡ 100 → ⊥) → to_tell b piece last l ≡ refusal Store
  unfolding to_tell
  tells-store h k = rw (h, ne_eqb (length l) 100 k)

  pub tells_records : b.over ≡ false → length l ≡ 100 → to_tell b piece last l ≡ records_in b piece last
  unfolding to_tell
  tells_records h k = rw (h, eq-eqb (length l) 100 k)

-- whether a run ends where no record is left
pub or_over : (x y : Bool) → y ≡ true → (x || y) ≡ true
or_over true y h = refl
or_over false y h = h

pub or_going : (x y : Bool) → y ≡ false → (x || y) ≡ x
or_going true y h = refl
or_going false y h = h

-- where no record is left, no bytes lie beyond the limit, and what is left is shorter than a record
pub none_left : (beyond last : Bool) (s : List ℕ) (at : ℕ) → Stands s at → seen_at beyond last s at ≡ Ok None → (beyond ≡ false) × (length s - at ≤ 6)
none_left true last s at (none h) e = let x = rw (at-end s at h) at e in cc
none_left false last s at (none h) e = (refl, omega (arith, h))
none_left true last s at (cut h k m) e = let x = rw (at_cut s at h k m) at e in cc
none_left false last s at (cut h k m) e = (refl, omega (arith, m, body_most (byte_at s at)))
none_left beyond last s at (unknown h k) e = let x = rw (at-unknown s at h k) at e in cc
none_left beyond last s at (whole h k m) e = let x = rw (at-whole s at h k m) at e in cc
