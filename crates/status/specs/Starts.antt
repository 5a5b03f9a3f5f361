-- The start events on the four status words, and what they have to do with the same events on the store.
use Rattle.std.specs.Prelude.{ℕ, ◌≡◌, cond, List, length}
use Rattle.rules.specs.Words.{word, SR0, SR1, SR2, SR3, frozen}
use Rattle.rules.specs.Step.{step}
use Rattle.rules.specs.declared.Event.TheVariants.{Instruction, Interrupt}
use Rattle.status.specs.declared.Status.{Status}

-- unless frozen, SR1 becomes 0 and SR2 the number; SR0 and SR3 stay
unfoldable pub started_of : Status → ℕ → Status
started_of t n = cond (frozen t.sr0) t (record { sr0 = t.sr0; sr1 = 0; sr2 = n; sr3 = t.sr3 })

-- the status words of a store
abbrev pub status_of : List ℕ → Status
status_of l = record { sr0 = word l SR0; sr1 = word l SR1; sr2 = word l SR2; sr3 = word l SR3 }

-- on the status words of a whole store the record's form does what the store's form does
abbrev pub AsInTheStore : Type 0
AsInTheStore =
    (l : List ℕ) (n : ℕ) → length l ≡ 100
    → (status_of (step l (Instruction n)).1 ≡ started_of (status_of l) n) × (status_of (step l (Interrupt n)).1 ≡ started_of (status_of l) n)
