-- Demand 3 said of the operation itself: `apply` promises `(paper answer, store at exit) ≡ step (store at entry) event`, and the other operations
-- promise it at their own events.
use Rattle.std.specs.Prelude.{ℕ, ◌≤◌, ◌≡◌, Bool, true, List, [], ◌∷◌, ◌++◌, Result, Ok}
use Rattle.std.specs.declared.option.Option.{Option}
use Rattle.rules.specs.Paper.{paper}
use Rattle.rules.specs.Step.{step}
use Rattle.rules.specs.declared.Refusal.{Refusal}
use Rattle.rules.specs.declared.Answer.{Answer}
use Rattle.rules.specs.declared.Answer.TheVariants.{Granted}
use Rattle.rules.specs.declared.Reference.{Reference}
use Rattle.rules.specs.declared.Event.{Event}
use Rattle.rules.specs.declared.Event.TheVariants.{Refer}
use Rattle.widening.specs.LastMap.{On, in_phase}
use Rattle.widening.specs.Reaches.{apart}
use Rattle.widening.specs.Runs.{after, calm}

-- a call that answers a, and takes the store l to m
abbrev pub Applied : List ℕ → Event → Result Answer Refusal → List ℕ → Type 0
Applied l e a m = (paper a, m) ≡ step l e

-- calls one after the other, that take the store l to m
pub data Ran : List ℕ → List Event → List ℕ → Type 0 where
  none : {l : List ℕ} → Ran l [] l
  next : {l k m : List ℕ} {es : List Event} (e : Event) (a : Result Answer Refusal) → Applied l e a k → Ran k es m → Ran l (e ∷ es) m

-- any events can be called one after the other, from any store, and the store comes to be the run's
abbrev pub AlwaysRuns : Type 0
AlwaysRuns = (l : List ℕ) (es : List Event) → Ran l es (after l es)

-- what a call granted once, any later call for it grants again at the same byte by the same page
abbrev pub KeptByCalls : Type 0
KeptByCalls =
    (l m n : List ℕ) → On l → (es fs : List Event) → Ran l es m → Ran m fs n → calm l (es ++ fs) ≡ true
    → (r : Reference) (byte : ℕ) (trap : Bool) (served : Option ℕ) (x : List ℕ) → Applied m (Refer r) (Ok (Granted byte trap served)) x
    → (phase : ℕ) → phase ≤ 1 → (a : Result Answer Refusal) (y : List ℕ) → Applied n (Refer (in_phase phase r)) a y
    → (again : Bool) × (a ≡ Ok (Granted byte again served))

-- if the store that the calls come to in the end keeps the modes apart, two calls on the way that granted the same byte, one after es and one after
-- fs too, granted it to one mode
abbrev pub NeverSharedByCalls : Type 0
NeverSharedByCalls =
    (l m n o : List ℕ) → On l → (es fs gs : List Event) → Ran l es m → Ran m fs n → Ran n gs o → calm l (es ++ (fs ++ gs)) ≡ true
    → apart o ≡ true
    → (r q : Reference) (byte : ℕ) (trap again : Bool) (served other : Option ℕ) (x y : List ℕ)
    → Applied m (Refer r) (Ok (Granted byte trap served)) x → Applied n (Refer q) (Ok (Granted byte again other)) y
    → r.mode ≡ q.mode
