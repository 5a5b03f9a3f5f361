-- The bytes still to come from a later place: the limit is as far, and those inside it are what is left of the same bytes.
use mathlib.Core.Path.{◌≡◌, refl, sym}
use mathlib.Core.Bool.{Bool, true, false}
use mathlib.Core.List.{List}
use Prim.Native.Nat.{ℕ, ◌+◌, ◌-◌, ◌≤◌}
use native.Mathlib.Omega.{arith}
use lib.Dec.{ltb}
use lib.ListN.{length, drop, length-drop}
use borrow.Author.Tests.{lt-ltb, le-ltb, ltb-true, ltb-false}
use Rattle.pieces.specs.Begun.{joined, allowed, inside, beyond}
use Rattle.pieces.specs.declared.Begun.{Begun}
use Rattle.pieces.proofs.Lists.{drop-take}

-- the limit, counted from a later place
later : (a n m : ℕ) → n ≤ a → n ≤ m → ltb (a - n) (m - n) ≡ ltb a m
later a n m h k = by (ltb a m) refl
  where
    by : (x : Bool) → ltb a m ≡ x → ltb (a - n) (m - n) ≡ x
    by true e = let w = ltb-true a m e in lt-ltb (a - n) (m - n) (omega (arith, h, k, w))
    by false e = let w = ltb-false a m e in le-ltb (a - n) (m - n) (omega (arith, h, k, w))

-- a state from which the bytes still to come are those from a place on
module _ (b : Begun) (rest : List ℕ) (n : ℕ) (b' : Begun) (rest' : List ℕ) (place : b'.at ≡ b.at + n) (bytes : joined b' rest' ≡ drop n (joined b rest))
    (near : n ≤ allowed b) (there : n ≤ length (joined b rest)) where
  same-limit : allowed b' ≡ allowed b - n
  same-limit = omega (arith, place)

  pub same-beyond : beyond b' rest' ≡ beyond b rest
  same-beyond = rw (same-limit, bytes, length-drop n (joined b rest)) (later (allowed b) n (length (joined b rest)) near there)

  pub same-inside : inside b' rest' ≡ drop n (inside b rest)
  same-inside = rw (same-limit, bytes) (sym (drop-take n (allowed b) (joined b rest)))
