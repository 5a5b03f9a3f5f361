-- The numbers of an accepted reference are those it was accepted by: the modes and the flags, number by number.
use mathlib.Core.Path.{◌≡◌, refl}
use mathlib.Core.Bool.{Bool, true, false, cond}
use Prim.Native.Nat.{ℕ, zero, suc}
use native.Mathlib.Omega.{arith}
use lib.Dec.{eqb, ltb}
use borrow.Author.Tests.{ltb-false}
use Rattle.std.proofs.Common.{Ok, Err, Some, None}
use Rattle.std.specs.declared.option.Option.{Option}
use Rattle.rules.specs.Words.{bit}
use Rattle.rules.specs.Modes.{mode_of}
use Rattle.rules.specs.declared.modes.Mode.{Mode}
use Rattle.rules.specs.declared.modes.Mode.TheVariants.{Kernel, Supervisor, User}
use Rattle.rules.specs.declared.Refusal.TheVariants.{Mode as BadMode}
use Rattle.rules.specs.declared.Reference.{Reference}
use Rattle.references.specs.Accepted.{numbers, number_of}

-- the mode of a number up to 3
abbrev pub legal : ℕ → Option Mode
legal n = cond (eqb n 2) None (Some (cond (eqb n 0) Kernel (cond (eqb n 1) Supervisor User)))

either : (x y : Bool) (m : Option Mode) (k : Mode)
    → cond x (Err BadMode) (cond y (Ok m) (Ok (Some k))) ≡ cond x (Err BadMode) (Ok (cond y m (Some k)))
either x true m k = refl
either x false m k = refl

pub mode-legal : (n : ℕ) → mode_of n ≡ cond (ltb 3 n) (Err BadMode) (Ok (legal n))
unfolding mode_of
mode-legal n = either (ltb 3 n) (eqb n 2) None (cond (eqb n 0) Kernel (cond (eqb n 1) Supervisor User))

number-legal : (n : ℕ) → ltb 3 n ≡ false → number_of (legal n) ≡ n
number-legal zero h = refl
number-legal (suc zero) h = refl
number-legal (suc (suc zero)) h = refl
number-legal (suc (suc (suc zero))) h = refl
number-legal (suc (suc (suc (suc n)))) h = let k = ltb-false 3 (suc (suc (suc (suc n)))) h in absurd (omega arith)

flag_number : (n : ℕ) → ltb 1 n ≡ false → bit (eqb n 1) ≡ n
flag_number zero h = refl
flag_number (suc zero) h = refl
flag_number (suc (suc n)) h = let k = ltb-false 1 (suc (suc n)) h in absurd (omega arith)

pub same_numbers : (r : Reference) → ltb 3 r.mode ≡ false → ltb 1 r.space ≡ false → ltb 1 r.access ≡ false → ltb 1 r.phase ≡ false
    → numbers (record { mode = legal r.mode; data_space = eqb r.space 1; write = eqb r.access 1; phase = eqb r.phase 1; va = r.va }) ≡ r
same_numbers r e f g h = rw (number-legal r.mode e, flag_number r.space f, flag_number r.access g, flag_number r.phase h)
