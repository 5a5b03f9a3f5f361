-- An outcome under its refusal number, as `step` has it, and the simplest chain of tests: an event that needs only a whole store.
use mathlib.Core.Path.{◌≡◌, refl}
use mathlib.Core.Bool.{Bool, true, false, cond, not}
use mathlib.Core.List.{List}
use Prim.Native.Nat.{ℕ}
use lib.Dec.{eqb}
use Rattle.rules.specs.Paper.{Paper, X}

abbrev pub Outcome : Type 0
Outcome = Paper × List ℕ

-- 0 for no refusal
abbrev pub unless : ℕ → List ℕ → Outcome → Outcome
unless n l p = cond (eqb n 0) p (X n, l)

pub whole : (x : Bool) (l : List ℕ) (p : Outcome) → unless (cond (not x) 1 0) l p ≡ cond x p (X 1, l)
whole true l p = refl
whole false l p = refl
