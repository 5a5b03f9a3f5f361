-- `step` of a reference with its refusals as the code goes through them: the tests as bools, case by case.
use mathlib.Core.Path.{◌≡◌, refl, sym, ap}
use mathlib.Core.Bool.{Bool, true, false, cond, not}
use mathlib.Core.List.{List}
use Prim.Native.Nat.{ℕ}
use lib.ListN.{length}
use lib.Dec.{eqb, ltb}
use Rattle.std.proofs.Common.{Result, Ok, Err}
use Rattle.std.specs.declared.option.Option.{Option}
use Rattle.rules.specs.Paper.{X, number}
use Rattle.rules.specs.References.{referred}
use Rattle.rules.specs.Refusals.{refusal_of}
use Rattle.rules.specs.Step.{step, accepted}
use Rattle.rules.specs.declared.modes.Mode.{Mode}
use Rattle.rules.specs.declared.Reference.{Reference}
use Rattle.rules.specs.declared.Refusal.{Refusal}
use Rattle.rules.specs.declared.Refusal.TheVariants.{Mode as BadMode, Space, Access, Phase}
use Rattle.rules.specs.declared.Event.TheVariants.{Refer}
use Rattle.rules.proofs.Outcomes.{Outcome, unless}
use Rattle.references.specs.Accepted.{numbers, then, accepted_of}
use Rattle.references.specs.declared.Accepted.{Accepted}
use Rattle.references.proofs.Numbers.{legal, mode-legal, same_numbers}

abbrev outcome : List ℕ → Result Accepted Refusal → Outcome
outcome l (Ok a) = referred l (numbers a)
outcome l (Err refusal) = (X (number refusal), l)

-- the four numbers tested, with what each is where it is accepted
abbrev tested : (a b c d : Bool) → Accepted → Result Accepted Refusal
tested a b c d q =
    then (cond a (Err BadMode) (Ok q.mode)) (λ (mode : Option Mode).
    then (cond b (Err Space) (Ok q.data_space)) (λ data_space.
    then (cond c (Err Access) (Ok q.write)) (λ write.
    then (cond d (Err Phase) (Ok q.phase)) (λ phase.
    Ok (record { mode = mode; data_space = data_space; write = write; phase = phase; va = q.va })))))

chained : (x a b c d : Bool) (l : List ℕ) (r : Reference) (q : Accepted)
    → (a ≡ false → b ≡ false → c ≡ false → d ≡ false → numbers q ≡ r)
    → unless (cond (not x) 1 (cond a 2 (cond b 3 (cond c 4 (cond d 5 0))))) l (referred l r) ≡ cond x (outcome l (tested a b c d q)) (X 1, l)
chained false a b c d l r q h = refl
chained true true b c d l r q h = refl
chained true false true c d l r q h = refl
chained true false false true d l r q h = refl
chained true false false false true l r q h = refl
chained true false false false false l r q h = ap (referred l) (sym (h refl refl refl refl))

pub refer_step : (l : List ℕ) (r : Reference)
    → step l (Refer r) ≡ cond (eqb (length l) 100) (outcome l (accepted_of r)) (X 1, l)
unfolding step refusal_of accepted accepted_of
refer_step l r =
    rw mode-legal
    (chained (eqb (length l) 100) (ltb 3 r.mode) (ltb 1 r.space) (ltb 1 r.access) (ltb 1 r.phase) l r
    (record { mode = legal r.mode; data_space = eqb r.space 1; write = eqb r.access 1; phase = eqb r.phase 1; va = r.va })
    (same_numbers r))
