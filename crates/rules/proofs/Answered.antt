-- Every event has an answer: what `step` says on paper is the paper of one. An accepted event never says a refusal, and a refusal's number is in 01's table.
use mathlib.Core.Path.{◌≡◌, refl, ap}
use mathlib.Core.Bool.{Bool, true, false, cond, ◌||◌, true≢false}
use mathlib.Core.List.{List}
use Prim.Native.Nat.{ℕ}
use lib.Dec.{eqb}
use borrow.Author.Tests.{eqb-true}
use Rattle.std.proofs.Common.{Result, Ok, Err}
use Rattle.rules.specs.Paper.{Paper, G, A, R, D, X, number, paper}
use Rattle.rules.specs.References.{referred, illegal_mode, examined, ruled}
use Rattle.rules.specs.Refusals.{refusal_of}
use Rattle.rules.specs.Step.{step, accepted}
use Rattle.rules.specs.declared.Reference.{Reference}
use Rattle.rules.specs.declared.Refusal.{Refusal}
use Rattle.rules.specs.declared.Answer.{Answer}
use Rattle.rules.specs.declared.Answer.TheVariants.{Granted, Aborted, Word, Done}
use Rattle.rules.specs.declared.Event.{Event}
use Rattle.rules.specs.declared.Event.TheVariants.{Refer, Read, Write, Instruction, Interrupt, Change, Init}
use Rattle.rules.proofs.Bools.{cond-first, cond_same}
use Rattle.rules.proofs.Papers.{numbered}

-- the letter of a refusal
unfoldable pub refuses : Paper → Bool
refuses (G byte trap served) = false
refuses (A n e o) = false
refuses (R w) = false
refuses D = false
refuses (X n) = true

cond-refuses : (x : Bool) (p q : Paper) → refuses (cond x p q) ≡ cond x (refuses p) (refuses q)
cond-refuses true p q = refl
cond-refuses false p q = refl

referred-answers : (l : List ℕ) (r : Reference) → refuses (referred l r).0 ≡ false
unfolding refuses referred illegal_mode examined ruled
referred-answers l r = simp (cond-first, cond-refuses, cond_same)

pub accepted-answers : (l : List ℕ) (e : Event) → refuses (accepted l e).0 ≡ false
unfolding refuses accepted
accepted-answers l (Refer r) = referred-answers l r
accepted-answers l (Read address) = refl
accepted-answers l (Write address value) = refl
accepted-answers l (Instruction va) = refl
accepted-answers l (Interrupt vector) = refl
accepted-answers l (Change register amount) = refl
accepted-answers l Init = refl

-- 0, or a number of 01's table
listed : ℕ → Bool
listed n = eqb n 0 || eqb (number (numbered n)) n

cond-listed : (x : Bool) (m n : ℕ) → listed (cond x m n) ≡ cond x (listed m) (listed n)
cond-listed true m n = refl
cond-listed false m n = refl

refusal-listed : (l : List ℕ) (e : Event) → listed (refusal_of l e) ≡ true
unfolding listed numbered refusal_of
refusal-listed l (Refer r) = simp (cond-listed, cond_same)
refusal-listed l (Read address) = simp (cond-listed, cond_same)
refusal-listed l (Write address value) = simp (cond-listed, cond_same)
refusal-listed l (Instruction va) = simp (cond-listed, cond_same)
refusal-listed l (Interrupt vector) = simp (cond-listed, cond_same)
refusal-listed l (Change register amount) = simp (cond-listed, cond_same)
refusal-listed l Init = simp (cond-listed, cond_same)

unrefused : (p : Paper) → refuses p ≡ false → (a : Result Answer Refusal) × (paper a ≡ p)
unfolding refuses
unrefused (G byte trap served) h = (Ok (Granted byte trap served), refl)
unrefused (A n e o) h = (Ok (Aborted n e o), refl)
unrefused (R w) h = (Ok (Word w), refl)
unrefused D h = (Ok Done, refl)
unrefused (X n) h = absurd (true≢false h)

pub answered : (l : List ℕ) (e : Event) → (a : Result Answer Refusal) × (paper a ≡ (step l e).0)
unfolding step listed
answered l e = by (eqb (refusal_of l e) 0) refl
  where
    by : (x : Bool) → eqb (refusal_of l e) 0 ≡ x → (a : Result Answer Refusal) × (paper a ≡ (cond {A = Paper × List ℕ} x (accepted l e) (X (refusal_of l e), l)).0)
    by true h = unrefused (accepted l e).0 (accepted-answers l e)
    by false h =
        let n = refusal_of l e in
        let z = rw h at (refusal-listed l e) in
        (Err (numbered n), ap X (eqb-true (number (numbered n)) n z))
