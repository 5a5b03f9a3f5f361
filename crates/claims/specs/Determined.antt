-- Each operation's promise is `(paper answer, store at exit) ≡ step (store at entry) event`: no second result meets it.
use Rattle.std.specs.Prelude.{ℕ, ◌≡◌, List, Result}
use Rattle.rules.specs.Paper.{paper}
use Rattle.rules.specs.Step.{step}
use Rattle.rules.specs.declared.Refusal.{Refusal}
use Rattle.rules.specs.declared.Answer.{Answer}
use Rattle.rules.specs.declared.Event.{Event}

-- the promise of every operation of the unit, each at its event
abbrev pub Promise : List ℕ → Event → Result Answer Refusal → List ℕ → Type 0
Promise l e a m = (paper a, m) ≡ step l e

abbrev pub Determined : Type 0
Determined =
    (l : List ℕ) (e : Event) (a b : Result Answer Refusal) (m n : List ℕ) → Promise l e a m → Promise l e b n → (a ≡ b) × (m ≡ n)
