-- Demand 3 of the operation: a call's promise is `step`, so that calls one after the other go as a run does, and an answer is read off its paper.
use Prim.Native.Nat.{ℕ}
use Rattle.std.specs.declared.option.Option.{Option}
use mathlib.Core.Path.{◌≡◌, refl, sym, ◌∙◌, ap}
use mathlib.Core.Bool.{Bool}
use mathlib.Core.List.{List, [], ◌∷◌, ◌++◌, append_assoc}
use Rattle.std.proofs.Common.{Ok}
use Rattle.rules.specs.Paper.{Paper}
use Rattle.rules.specs.Step.{step}
use Rattle.rules.specs.declared.Answer.TheVariants.{Granted}
use Rattle.rules.specs.declared.Reference.{Reference}
use Rattle.rules.specs.declared.Event.{Event}
use Rattle.rules.specs.declared.Event.TheVariants.{Refer}
use Rattle.rules.proofs.Papers.{paper_one_to_one}
use Rattle.rules.proofs.Answered.{answered}
use Rattle.widening.specs.LastMap.{Granted as Given}
use Rattle.widening.specs.Runs.{after}
use Rattle.widening.specs.Applied.{Applied, Ran, none, next, AlwaysRuns, KeptByCalls, NeverSharedByCalls}
use Rattle.widening.proofs.LastMap.{demand3}

-- the store that calls come to is the run's
came_to : {l m : List ℕ} {es : List Event} → Ran l es m → m ≡ after l es
came_to none = refl
came_to (next {es} e a h r) = came_to r ∙ ap (λ (k : List ℕ). after k es) (ap (λ (o : Paper × List ℕ). o.1) h)

pub always_runs : AlwaysRuns
always_runs l [] = none
always_runs l (e ∷ es) = let q = answered l e in next {l = l} {k = (step l e).1} e q.0 (rw q.1) (always_runs (step l e).1 es)

-- calls one after the other, and then more of them
together : {l m n : List ℕ} {es fs : List Event} → Ran l es m → Ran m fs n → Ran l (es ++ fs) n
together none q = q
together (next e a h p) q = next e a h (together p q)

-- what a call granted, `step` grants in the store that the run comes to
asked :
    {m k : List ℕ} (x : List ℕ) (r : Reference) (byte : ℕ) (trap : Bool) (served : Option ℕ)
    → m ≡ k → Applied m (Refer r) (Ok (Granted byte trap served)) x → Given k r byte served
asked x r byte trap served here g =
    let granted = sym (ap (λ (o : Paper × List ℕ). o.0) g) in
    (trap, rw here at granted)

pub kept_by_calls : KeptByCalls
kept_by_calls l m n on es fs p q calm r byte trap served x g phase small a y h =
    let kept = demand3.kept l on es fs calm r byte served (asked x r byte trap served (came_to p) g) phase small in
    let answer = ap (λ (o : Paper × List ℕ). o.0) h in
    (kept.0, paper_one_to_one a (Ok (Granted byte kept.0 served)) ((rw (came_to (together p q)) at answer) ∙ kept.1))

pub never_shared_by_calls : NeverSharedByCalls
never_shared_by_calls l m n o on es fs gs p q s calm clear r t byte trap again served other x y g h =
    demand3.never_shared l on (es ++ (fs ++ gs)) es (fs ++ gs) (es ++ fs) gs refl (sym (append_assoc es fs gs)) calm
    (rw (came_to (together p (together q s))) at clear) r t byte served other
    (asked x r byte trap served (came_to p) g) (asked y t byte again other (came_to (together p q)) h)
