-- The first number of a range that passes a test: what it is, and that it is in the range exactly if some number passes.
use mathlib.Core.Path.{◌≡◌, refl, sym}
use mathlib.Core.Bool.{Bool, true, false, cond, ◌||◌}
use Prim.Native.Nat.{ℕ, zero, suc, ◌+◌, ◌≤◌, ◌<◌}
use native.Mathlib.Omega.{arith}
use lib.Dec.{ltb}
use borrow.Author.Tests.{le-ltb, lt-ltb, ltb-true, ltb-false}
use Rattle.widening.specs.Some.{some}
use Rattle.meetings.specs.Firsts.{first_of}

module _ (f : ℕ → Bool) where
  -- a number before which none passes, and which passes if it is in the range
  pub first_is : (i n k : ℕ) → i ≤ k → k ≤ i + n → ((x : ℕ) → i ≤ x → x < k → f x ≡ false) → (k < i + n → f k ≡ true) → first_of f i n ≡ k
  first_is i zero k a b p q = omega arith
  first_is i (suc n) k a b p q = at (ltb i k) refl (first_is (suc i) n k)
    where
      at : (x : Bool) → ltb i k ≡ x
          → (suc i ≤ k → k ≤ suc i + n → ((x : ℕ) → suc i ≤ x → x < k → f x ≡ false) → (k < suc i + n → f k ≡ true) → first_of f (suc i) n ≡ k)
          → cond (f i) i (first_of f (suc i) n) ≡ k
      at true e r =
          let h = ltb-true i k e in
          rw (p i (omega arith) h) (r (omega arith) (omega arith) (λ x c d. p x (omega arith) d) (λ c. q (omega arith)))
      at false e r =
          let h : k ≡ i = omega (arith, ltb-false i k e) in
          let g : f i ≡ true = rw (← h) (q (omega arith)) in
          rw g (sym h)

  -- the first is in the range exactly if some number passes
  pub first_some : (i n : ℕ) → ltb (first_of f i n) (i + n) ≡ some f i n
  first_some i zero = le-ltb i (i + zero) (omega arith)
  first_some i (suc n) = at (f i) refl (first_some (suc i) n)
    where
      at : (x : Bool) → f i ≡ x → ltb (first_of f (suc i) n) (suc i + n) ≡ some f (suc i) n
          → ltb (cond (f i) i (first_of f (suc i) n)) (i + suc n) ≡ (f i || some f (suc i) n)
      at true e r = rw e (lt-ltb i (i + suc n) (omega arith))
      at false e r = let s : i + suc n ≡ suc i + n = omega arith in rw (e, s) r
