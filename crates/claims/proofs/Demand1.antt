-- Demand 1 holds: `step` refuses by the first number of a table that rises, and an accepted event never answers a refusal.
use mathlib.Core.Path.{◌≡◌, refl, sym, ◌∙◌, ap}
use mathlib.Core.Bool.{Bool, true, false, cond, true≢false}
use mathlib.Core.List.{List}
use Prim.Native.Nat.{ℕ}
use native.Mathlib.Omega.{arith}
use lib.Dec.{eqb}
use borrow.Author.Tests.{eqb-false, ne_eqb}
use Rattle.rules.specs.Paper.{Paper, X}
use Rattle.rules.specs.Refusals.{conditions, lowest, refusal_of}
use Rattle.rules.specs.Step.{step, accepted}
use Rattle.rules.specs.declared.Event.{Event}
use Rattle.rules.specs.declared.Event.TheVariants.{Refer, Read, Write, Instruction, Interrupt, Change, Init}
use Rattle.claims.specs.Demand1.{Lowest, RefusedKeeps, Demand1}
use Rattle.rules.proofs.Answered.{refuses, accepted-answers, answered}
use Rattle.claims.proofs.Lowest.{rising, absent, first-lowest, lowest-first}

rises : (l : List ℕ) (e : Event) → rising 0 (conditions l e) ≡ true
rises l (Refer r) = refl
rises l (Read address) = refl
rises l (Write address value) = refl
rises l (Instruction va) = refl
rises l (Interrupt vector) = refl
rises l (Change register amount) = refl
rises l Init = refl

-- a refusal is the number of the table, and not an answer of the event's own
number_is : (x : Bool) (k n : ℕ) (p : Paper × List ℕ) (l : List ℕ) → eqb k 0 ≡ x → refuses p.0 ≡ false
    → (cond {A = Paper × List ℕ} x p (X k, l)).0 ≡ X n → (k ≡ n) × ((cond {A = Paper × List ℕ} x p (X k, l)).1 ≡ l)
unfolding refuses
number_is true k n p l z h e = absurd (true≢false (sym (ap refuses e) ∙ h))
number_is false k n p l z h e = (cc, refl)

not_zero : (x : Bool) (k n : ℕ) (p : Paper × List ℕ) (l : List ℕ) → eqb k 0 ≡ x → refuses p.0 ≡ false
    → (cond {A = Paper × List ℕ} x p (X k, l)).0 ≡ X n → k ≡ 0 → ⊥
unfolding refuses
not_zero true k n p l z h e = absurd (true≢false (sym (ap refuses e) ∙ h))
not_zero false k n p l z h e = eqb-false k 0 z

there : (l : List ℕ) (e : Event) (n : ℕ) → (step l e).0 ≡ X n → Lowest n (conditions l e)
unfolding step refusal_of
there l e n h =
    let k = lowest (conditions l e) in
    let same = (number_is (eqb k 0) k n (accepted l e) l refl (accepted-answers l e) h).0 in
    let some = not_zero (eqb k 0) k n (accepted l e) l refl (accepted-answers l e) h in
    first-lowest 0 n (conditions l e) (rises l e) (λ z. some (same ∙ z)) same

-- a number that holds is none of a table from above 0 unless it is above 0
positive : (l : List ℕ) (e : Event) (n : ℕ) → Lowest n (conditions l e) → n ≡ 0 → ⊥
positive l e n w z = true≢false (sym (rw z at w.held) ∙ absent 0 0 (conditions l e) (rises l e) (omega arith))

back : (l : List ℕ) (e : Event) (n : ℕ) → Lowest n (conditions l e) → (step l e).0 ≡ X n
unfolding step refusal_of
back l e n w =
    rw (lowest-first 0 n (conditions l e) (rises l e) w, ne_eqb n 0 (positive l e n w))

keeps : RefusedKeeps
unfolding step refusal_of
keeps l e n h =
    let k = lowest (conditions l e) in
    (number_is (eqb k 0) k n (accepted l e) l refl (accepted-answers l e) h).1

pub demand1 : Demand1
demand1 = record { answered = answered; exactly = λ l e n. (there l e n, back l e n); keeps = keeps }
