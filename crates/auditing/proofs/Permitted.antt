-- No reason is answered exactly if the store is whole and demand 3 permits the step: no premise of the list fails.
use mathlib.Core.Path.{◌≡◌, refl, ap}
use mathlib.Core.Bool.{Bool, true, false, cond, not, ◌||◌, false≢true}
use mathlib.Core.List.{List, [], ◌∷◌}
use Prim.Native.Nat.{ℕ}
use native.Mathlib.Omega.{arith}
use lib.Dec.{eqb}
use lib.ListN.{length}
use borrow.Author.Tests.{eqb-true, eq-eqb}
use Rattle.std.proofs.Common.{Some, None, Ok, Err}
use Rattle.std.specs.declared.option.Option.{Option}
use Rattle.rules.specs.Refusals.{refusal_of}
use Rattle.rules.specs.declared.Event.{Event}
use Rattle.rules.specs.declared.Event.TheVariants.{Refer, Read, Write, Instruction, Interrupt, Change, Init}
use Rattle.rules.specs.declared.Refusal.TheVariants.{Store}
use Rattle.widening.specs.Premises.{premises, every}
use Rattle.widening.proofs.Premises.{premises_are}
use Rattle.auditing.specs.declared.Reason.{Reason}
use Rattle.auditing.specs.declared.Reason.TheVariants.{Init as IsInit}
use Rattle.auditing.specs.Verdicts.{Verdict, verdict_of, broken_by, first_broken, reasons, PermittedIs}

-- where every premise has a reason of its own, none is given exactly if every premise holds
none_broken : (ps : List Bool) (rs : List Reason) → length ps ≡ length rs → first_broken ps rs ≡ None → every ps ≡ true
none_broken [] rs n h = refl
none_broken (p ∷ ps) [] n h = absurd (omega arith)
none_broken (true ∷ ps) (r ∷ rs) n h = none_broken ps rs (omega arith) h
none_broken (false ∷ ps) (r ∷ rs) n h = cc

all-kept : (ps : List Bool) (rs : List Reason) → every ps ≡ true → first_broken ps rs ≡ None
all-kept [] rs h = refl
all-kept (p ∷ ps) [] h = refl
all-kept (true ∷ ps) (r ∷ rs) h = all-kept ps rs h
all-kept (false ∷ ps) (r ∷ rs) h = absurd (false≢true h)

seven : (l : List ℕ) (e : Event) → length (premises l e) ≡ length reasons
seven l (Refer r) = refl
seven l (Read address) = refl
seven l (Write address value) = refl
seven l (Instruction va) = refl
seven l (Interrupt vector) = refl
seven l (Change register amount) = refl
seven l Init = refl

-- w a whole store, z an accepted event, v the reason that the premises give, k every premise
both_ways : (w z k : Bool) (v : Option Reason) → (v ≡ None → k ≡ true) → (k ≡ true → v ≡ None)
    → (◌≡◌ {A = Verdict} (cond w (Ok (cond z v None)) (Err Store)) (Ok None) → (w ≡ true) × ((not z || k) ≡ true))
    × ((w ≡ true) × ((not z || k) ≡ true) → ◌≡◌ {A = Verdict} (cond w (Ok (cond z v None)) (Err Store)) (Ok None))
both_ways false z k v p q = (λ h. cc, λ h. absurd (false≢true h.0))
both_ways true false k v p q = (λ h. (refl, refl), λ h. refl)
both_ways true true k v p q = (λ h. let n : v ≡ None = cc in (refl, p n), λ h. ap Ok (q h.1))

pub permitted_is : PermittedIs
unfolding verdict_of broken_by
permitted_is l e =
    let w = eqb (length l) 100 in
    let t = both_ways w (eqb (refusal_of l e) 0) (every (premises l e)) (first_broken (premises l e) reasons)
    (none_broken (premises l e) reasons (seven l e)) (all-kept (premises l e) reasons) in (
      λ h. let k = t.0 h in (eqb-true (length l) 100 k.0, rw premises_are k.1),
      λ h. t.1 (eq-eqb (length l) 100 h.0, rw premises_are at h.1),
    )

-- an event that keeps every premise, refused or not
either : (z : Bool) → ◌≡◌ {A = Option Reason} (cond z None None) None
either true = refl
either false = refl

pub quiet : (l : List ℕ) (e : Event) → first_broken (premises l e) reasons ≡ None → broken_by l e ≡ None
unfolding broken_by
quiet l e h = rw h (either (eqb (refusal_of l e) 0))

pub init_breaks : (l : List ℕ) → length l ≡ 100 → broken_by l Init ≡ Some IsInit
unfolding broken_by refusal_of
init_breaks l whole = rw (eq-eqb (length l) 100 whole)
