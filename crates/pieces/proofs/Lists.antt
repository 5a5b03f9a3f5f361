-- A front of two lists one after the other, and what is left of them; and what is left of a front. Place by place.
use mathlib.Core.Path.{◌≡◌}
use mathlib.Core.List.{List, ◌++◌}
use Prim.Native.Nat.{ℕ, ◌-◌}
use native.Mathlib.Omega.{arith}
use lib.ListN.{length, take, drop}
use Rattle.std.proofs.lemmas.List.{places, same_lists}

pub take-two : (n : ℕ) (xs ys : List ℕ) → take n (xs ++ ys) ≡ take n xs ++ take (n - length xs) ys
take-two n xs ys = same_lists _ _ (grind (arith, places)) (λ k d h. grind (arith, places))

pub drop-two : (n : ℕ) (xs ys : List ℕ) → drop n (xs ++ ys) ≡ drop n xs ++ drop (n - length xs) ys
drop-two n xs ys = same_lists _ _ (grind (arith, places)) (λ k d h. grind (arith, places))

pub drop-take : (n a : ℕ) (s : List ℕ) → drop n (take a s) ≡ take (a - n) (drop n s)
drop-take n a s = same_lists _ _ (grind (arith, places)) (λ k d h. grind (arith, places))
