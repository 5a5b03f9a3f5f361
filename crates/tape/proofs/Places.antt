-- A recording from the lesser of a place and its length on is what is left of it from the place on.
use mathlib.Core.Path.{◌≡◌}
use mathlib.Core.List.{List}
use Prim.Native.Nat.{ℕ, ◌-◌, min}
use native.Mathlib.Omega.{arith}
use lib.ListN.{length, take, drop, length-drop}
use lib.Seq.{take_all}
use Rattle.std.proofs.lemmas.List.{drop_min}

pub from_place : (r : List ℕ) (at n : ℕ) → n ≡ min at (length r) → take (length r - n) (drop n r) ≡ drop at r
from_place r at n e = rw (take_all (length r - n) (drop n r) (omega (arith, length-drop n r)), e) (drop_min at r)
