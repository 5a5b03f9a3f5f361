-- Demand 1: every event ends with an answer, and a bad event is refused by document 01's number and changes nothing.
use Rattle.std.specs.Prelude.{ℕ, ◌<◌, ◌≡◌, ◌↔◌, true, false, List, Result}
use Rattle.rules.specs.Paper.{X, paper}
use Rattle.rules.specs.Refusals.{Conditions, conditions, holds}
use Rattle.rules.specs.Step.{step}
use Rattle.rules.specs.declared.Refusal.{Refusal}
use Rattle.rules.specs.declared.Answer.{Answer}
use Rattle.rules.specs.declared.Event.{Event}

-- what an event comes to is an answer's letter and values
abbrev pub Answered : Type 0
Answered = (l : List ℕ) (e : Event) → (a : Result Answer Refusal) × (paper a ≡ (step l e).0)

-- n is the lowest number whose condition holds
pub record Lowest (n : ℕ) (cs : Conditions) : Type 0 where
  pub held : holds n cs ≡ true
  pub none : (m : ℕ) → m < n → holds m cs ≡ false

-- the answer is refusal n exactly when n is the lowest number whose condition in 01's table holds
abbrev pub RefusedExactly : Type 0
RefusedExactly = (l : List ℕ) (e : Event) (n : ℕ) → ((step l e).0 ≡ X n) ↔ Lowest n (conditions l e)

-- and then the store keeps every bit
abbrev pub RefusedKeeps : Type 0
RefusedKeeps = (l : List ℕ) (e : Event) (n : ℕ) → (step l e).0 ≡ X n → (step l e).1 ≡ l

pub record Demand1 : Type 0 where
  pub answered : Answered
  pub exactly : RefusedExactly
  pub keeps : RefusedKeeps
