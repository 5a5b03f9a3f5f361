-- `step` of a start, of INIT and of a change with its refusals as one chain of tests: the tests as bools, case by case.
use mathlib.Core.Path.{◌≡◌, refl, ap}
use mathlib.Core.Bool.{Bool, true, false, cond, not, ◌&&◌, ◌||◌}
use mathlib.Core.List.{List}
use Prim.Native.Nat.{ℕ}
use lib.ListN.{length, set}
use lib.Dec.{eqb, ltb}
use lib.IntN.{ℤ}
use mir.Syntax.{w32}
use mir.Val.{SFits, to_z, of_z}
use mir.ValLaws.{to_z-of_z}
use Rattle.std.proofs.Common.{Result, Ok, Err}
use Rattle.rules.specs.Paper.{D, X, number}
use Rattle.rules.specs.Words.{word, SR0, SR1, frozen}
use Rattle.rules.specs.Others.{started, cleared, good_amount, change_byte, both_used, with_change, noted}
use Rattle.rules.specs.Refusals.{refusal_of}
use Rattle.rules.specs.Step.{step, accepted}
use Rattle.rules.specs.declared.Refusal.{Refusal}
use Rattle.rules.specs.declared.Refusal.TheVariants.{BadChange}
use Rattle.rules.specs.declared.Event.TheVariants.{Instruction, Interrupt, Change, Init}
use Rattle.rules.proofs.Outcomes.{Outcome, unless, whole}
use Rattle.events.specs.Starts.{start_of}
use Rattle.events.specs.Changes.{byte_of, entered}

pub instruction_step : (l : List ℕ) (n : ℕ) → step l (Instruction n) ≡ start_of l n
unfolding step refusal_of accepted start_of
instruction_step l n = whole (eqb (length l) 100) l (D, started l n)

pub interrupt_step : (l : List ℕ) (n : ℕ) → step l (Interrupt n) ≡ start_of l n
unfolding step refusal_of accepted start_of
interrupt_step l n = whole (eqb (length l) 100) l (D, started l n)

pub init_step : (l : List ℕ) → step l Init ≡ cond (eqb (length l) 100) (D, cleared l) (X 1, l)
unfolding step refusal_of accepted
init_step l = whole (eqb (length l) 100) l (D, cleared l)

-- a change: 9, and then 10
abbrev noted_by : List ℕ → Result ℕ Refusal → Outcome
noted_by l (Ok byte) = cond (frozen (word l SR0)) (D, l) (entered l byte)
noted_by l (Err refusal) = (X (number refusal), l)

changed : (x b f u : Bool) (l m : List ℕ)
    → unless (cond (not x) 1 (cond b 9 (cond (not f && u) 10 0))) l (D, cond f l m)
    ≡ cond x (cond b (X 9, l) (cond f (D, l) (cond u (X 10, l) (D, m)))) (X 1, l)
changed false b f u l m = refl
changed true true f u l m = refl
changed true false true u l m = refl
changed true false false true l m = refl
changed true false false false l m = refl

by_byte : (b : Bool) (l : List ℕ) (byte : ℕ) → cond b (X 9, l) (noted_by l (Ok byte)) ≡ noted_by l (cond b (Err BadChange) (Ok byte))
by_byte true l byte = refl
by_byte false l byte = refl

pub change_step : (l : List ℕ) (r : ℕ) (n : ℤ)
    → step l (Change r n) ≡ cond (eqb (length l) 100) (noted_by l (byte_of r n)) (X 1, l)
unfolding step refusal_of accepted noted entered byte_of
change_step l r n =
    let b = ltb 7 r || not (good_amount n) in
    rw (← by_byte b l (change_byte r n))
    (changed (eqb (length l) 100) b (frozen (word l SR0)) (both_used (word l SR1)) l
    (set l SR1 (with_change (word l SR1) (change_byte r n))))

-- the amount as the machine holds it
pub byte_as_held : (r : ℕ) (n : ℤ) → SFits w32 n → byte_of r (to_z w32 (of_z w32 n)) ≡ byte_of r n
byte_as_held r n f = ap (byte_of r) (to_z-of_z w32 n f)
