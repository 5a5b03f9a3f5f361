-- `step` of a register read and write goes by where the address leads: the tests as bools, case by case.
use mathlib.Core.Path.{◌≡◌, refl}
use mathlib.Core.Bool.{Bool, true, false, cond, not, ◌&&◌}
use mathlib.Core.List.{List}
use Prim.Native.Nat.{ℕ, ◌<◌}
use lib.ListN.{length}
use lib.Dec.{eqb, ltb}
use native.Mathlib.Omega.{arith}
use borrow.Author.Tests.{ltb-true}
use Rattle.std.proofs.Common.{Result, Ok, Err, Some, None}
use Rattle.std.specs.Option.{ok_or}
use Rattle.rules.specs.Paper.{R, D, X, number}
use Rattle.rules.specs.Addresses.{register_at, is_register}
use Rattle.rules.specs.Registers.{read_at, written_at}
use Rattle.rules.specs.Refusals.{refusal_of, odd}
use Rattle.rules.specs.Step.{step, accepted}
use Rattle.rules.specs.declared.Refusal.{Refusal}
use Rattle.rules.specs.declared.Refusal.TheVariants.{High, Odd, NoRegister}
use Rattle.rules.specs.declared.Event.TheVariants.{Read, Write}
use Rattle.rules.proofs.Outcomes.{Outcome, unless}
use Rattle.decode.specs.Parts.{place_at}
use Rattle.registers.specs.Found.{found_of}

-- an address: 6, 7 and 8
abbrev pub outcome : (ℕ → Outcome) → List ℕ → Result ℕ Refusal → Outcome
outcome f l (Ok place) = f place
outcome f l (Err refusal) = (X (number refusal), l)

abbrev sought : Bool → Bool → Bool → ℕ → Result ℕ Refusal
sought h o g p = cond h (Err High) (cond o (Err Odd) (cond g (Ok p) (Err NoRegister)))

addressed : (x h o g : Bool) (p : ℕ) (l : List ℕ) (f : ℕ → Outcome)
    → unless (cond (not x) 1 (cond h 6 (cond o 7 (cond (not o && not g) 8 0)))) l (f p) ≡ cond x (outcome f l (sought h o g p)) (X 1, l)
addressed false h o g p l f = refl
addressed true true o g p l f = refl
addressed true false true g p l f = refl
addressed true false false true p l f = refl
addressed true false false false p l f = refl

pub read_step : (l : List ℕ) (a : ℕ)
    → step l (Read a) ≡ cond (eqb (length l) 100) (outcome (λ p. (R (read_at l p), l)) l (found_of a)) (X 1, l)
unfolding step refusal_of accepted found_of
read_step l a = addressed (eqb (length l) 100) (ltb 0o777777 a) (odd a) (is_register a) (register_at a) l (λ p. (R (read_at l p), l))

pub write_step : (l : List ℕ) (a v : ℕ)
    → step l (Write a v) ≡ cond (eqb (length l) 100) (outcome (λ p. (D, written_at l p v)) l (found_of a)) (X 1, l)
unfolding step refusal_of accepted found_of
write_step l a v = addressed (eqb (length l) 100) (ltb 0o777777 a) (odd a) (is_register a) (register_at a) l (λ p. (D, written_at l p v))

-- a place, or else the refusal
by_register : (g : Bool) (p : ℕ) → ok_or (cond g (Some p) None) NoRegister ≡ cond g (Ok p) (Err NoRegister)
by_register true p = refl
by_register false p = refl

pub or_none : (a : ℕ) → ok_or (place_at a) NoRegister ≡ cond (is_register a) (Ok (register_at a)) (Err NoRegister)
unfolding place_at
or_none a = by_register (is_register a) (register_at a)

-- a place that was found is one of the 100
one_of : (h o g : Bool) (q p : ℕ) → (g ≡ true → q < 100) → sought h o g q ≡ Ok p → p < 100
one_of true o g q p k e = let z : ◌≡◌ {A = ℕ} 0 1 = cc in absurd (omega arith)
one_of false true g q p k e = let z : ◌≡◌ {A = ℕ} 0 1 = cc in absurd (omega arith)
one_of false false false q p k e = let z : ◌≡◌ {A = ℕ} 0 1 = cc in absurd (omega arith)
one_of false false true q p k e = let z : q ≡ p = cc in omega (arith, k refl)

pub found_place : (a p : ℕ) → found_of a ≡ Ok p → p < 100
unfolding found_of
found_place a p e = one_of (ltb 0o777777 a) (odd a) (is_register a) (register_at a) p (ltb-true (register_at a) 100) e
