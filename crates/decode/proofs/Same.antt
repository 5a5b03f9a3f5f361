-- The parts lead to the same place as 01's list of addresses: computed for each byte inside, by bounds outside.
use mathlib.Core.Path.{◌≡◌, refl, ◌∙◌, ap, sym}
use mathlib.Core.Bool.{Bool, true, false, cond, ◌&&◌}
use mathlib.Core.List.{List, [], ◌∷◌}
use Prim.Native.Nat.{ℕ, suc, ◌+◌, ◌-◌, ◌/◌, ◌%◌, ◌≤◌, ◌<◌}
use native.Mathlib.Omega.{arith}
use lib.Dec.{ltb, leb, eqb}
use lib.ListN.{length}
use borrow.Author.Tests.{leb-true, ltb-true, ltb-false, ne_eqb}
use Rattle.std.proofs.Common.{Some, None, is_some}
use Rattle.rules.specs.Addresses.{register_at, is_register, index_of, values, address_of}
use Rattle.rules.specs.Refusals.{odd}
use Rattle.rules.proofs.Bools.{and_l, and_r, cond_same}
use Rattle.rules.proofs.Values.{agree}
use Rattle.decode.specs.Parts.{place_at, by_part, mode_at, status_at}

-- every element lies in lo .. hi - 1
within : ℕ → ℕ → List ℕ → Bool
within lo hi [] = true
within lo hi (x ∷ xs) = leb lo x && (ltb x hi && within lo hi xs)

-- what lies outside is none of them
outside : (lo hi a : ℕ) (xs : List ℕ) → within lo hi xs ≡ true → (lo ≤ a → a < hi → ⊥) → index_of a xs ≡ length xs
unfolding within
outside lo hi a [] h n = refl
outside lo hi a (x ∷ xs) h n =
    let rest = and_r (leb lo x) (ltb x hi && within lo hi xs) h in
    let low = leb-true lo x (and_l (leb lo x) (ltb x hi && within lo hi xs) h) in
    let high = ltb-true x hi (and_l (ltb x hi) (within lo hi xs) rest) in
    rw (ne_eqb a x (λ e. n (omega arith) (omega arith))) (ap suc (outside lo hi a xs (and_r (ltb x hi) (within lo hi xs) rest) n))

none : (a : ℕ) → (0o772200 ≤ a → a < 0o777700 → ⊥) → place_at a ≡ None
unfolding place_at register_at within
none a n = rw (outside 0o772200 0o777700 a (values address_of 0 100) refl n)

inside : values by_part 0o772200 0o5500 ≡ values place_at 0o772200 0o5500
unfolding by_part mode_at status_at place_at register_at
inside = refl

-- outside, no part fits
away : (a : ℕ) → (0o772200 ≤ a → a < 0o777700 → ⊥) → by_part a ≡ None
unfolding by_part mode_at status_at
away a n =
    rw (
      ne_eqb (a / 64) 0o7723 (λ e. n (omega arith) (omega arith)),
      ne_eqb (a / 64) 0o7722 (λ e. n (omega arith) (omega arith)),
      ne_eqb (a / 64) 0o7776 (λ e. n (omega arith) (omega arith)),
      ne_eqb a 0o777572 (λ e. n (omega arith) (omega arith)),
      ne_eqb a 0o777574 (λ e. n (omega arith) (omega arith)),
      ne_eqb a 0o777576 (λ e. n (omega arith) (omega arith)),
      ne_eqb a 0o772516 (λ e. n (omega arith) (omega arith)),
    )
    (cond_same (eqb (a % 2) 1) None)

by_case : (a : ℕ) (x y : Bool) → ltb a 0o772200 ≡ x → ltb a 0o777700 ≡ y → by_part a ≡ place_at a
by_case a true y e f =
    let h = ltb-true a 0o772200 e in
    away a (λ p q. omega arith) ∙ sym (none a (λ p q. omega arith))
by_case a false true e f =
    let h = ltb-false a 0o772200 e in
    let g = ltb-true a 0o777700 f in
    let back : 0o772200 + (a - 0o772200) ≡ a = omega arith in
    rw back at (agree by_part place_at 0o772200 0o5500 inside (a - 0o772200) (omega arith))
by_case a false false e f =
    let h = ltb-false a 0o777700 f in
    away a (λ p q. omega arith) ∙ sym (none a (λ p q. omega arith))

pub same : (a : ℕ) → by_part a ≡ place_at a
same a = by_case a (ltb a 0o772200) (ltb a 0o777700) refl refl

pub place_by_part : (a : ℕ) → place_at a ≡ by_part a
place_by_part a = sym (same a)

-- a place is found exactly where a register is
either : (x : Bool) (p : ℕ) → is_some (cond x (Some p) None) ≡ x
either true p = refl
either false p = refl

pub found : (a : ℕ) → is_some (place_at a) ≡ is_register a
unfolding place_at
found a = either (is_register a) (register_at a)

-- no register at an odd address, or above 777777
pub odd-none : (a : ℕ) → odd a ≡ true → is_register a ≡ false
unfolding by_part
odd-none a h = sym (found a) ∙ rw (← same a, h)

pub high-none : (a : ℕ) → ltb 0o777777 a ≡ true → is_register a ≡ false
high-none a h =
    let k = ltb-true 0o777777 a h in
    sym (found a) ∙ rw (none a (λ p q. omega arith))
