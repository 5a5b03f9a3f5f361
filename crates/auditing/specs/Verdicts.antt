-- The verdict on a step: permitted by demand 3, or broken by the first of its premises that fails, in the order of `premises`.
use Rattle.std.specs.Prelude.{◌≡◌, ◌↔◌, Bool, true, cond, List, [], ◌∷◌, ℕ, length, eqb, Result, Ok, Err, Some, None}
use Rattle.std.specs.declared.option.Option.{Option}
use Rattle.rules.specs.Refusals.{refusal_of}
use Rattle.rules.specs.declared.Event.{Event}
use Rattle.rules.specs.declared.Refusal.{Refusal}
use Rattle.rules.specs.declared.Refusal.TheVariants.{Store}
use Rattle.widening.specs.Runs.{permitted}
use Rattle.widening.specs.Premises.{premises}
use Rattle.auditing.specs.declared.Reason.{Reason}
use Rattle.auditing.specs.declared.Reason.TheVariants.{Init, WritesSr3, RelocationOff, ChangesPar, ChangesEd, Narrows, LosesRights}

-- no reason where the step is permitted
abbrev pub Verdict : Type 0
Verdict = Result (Option Reason) Refusal

-- what it is called that a premise fails, in the order of `premises`
abbrev pub reasons : List Reason
reasons = Init ∷ WritesSr3 ∷ RelocationOff ∷ ChangesPar ∷ ChangesEd ∷ Narrows ∷ LosesRights ∷ []

-- the first premise that fails
abbrev pub first_broken : List Bool → List Reason → Option Reason
first_broken [] rs = None
first_broken (kept ∷ ps) [] = None
first_broken (kept ∷ ps) (r ∷ rs) = cond kept (first_broken ps rs) (Some r)

-- a refused event is permitted
unfoldable pub broken_by : List ℕ → Event → Option Reason
broken_by l e = cond (eqb (refusal_of l e) 0) (first_broken (premises l e) reasons) None

-- a store that isn't 100 words is refused
unfoldable pub verdict_of : List ℕ → Event → Verdict
verdict_of l e = cond (eqb (length l) 100) (Ok (broken_by l e)) (Err Store)

-- no reason is answered exactly if the store is whole and demand 3 permits the step
abbrev pub PermittedIs : Type 0
PermittedIs = (l : List ℕ) (e : Event) → (verdict_of l e ≡ Ok None) ↔ ((length l ≡ 100) × (permitted l e ≡ true))
