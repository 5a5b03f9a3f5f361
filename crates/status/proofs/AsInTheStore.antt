-- The record's form and the store's form of a start agree: both go by the frozen test, and SR1 and SR2 are the words that change.
use Prim.Native.Nat.{ℕ}
use mathlib.Core.Path.{◌≡◌, refl}
use mathlib.Core.Bool.{Bool, true, false, cond}
use mathlib.Core.List.{List}
use native.Mathlib.Omega.{arith}
use lib.ListN.{length, set, length-set}
use lib.Seq.{get_or-set_same, get_or-set_other}
use borrow.Author.Tests.{eq-eqb}
use Rattle.rules.specs.Words.{word, SR0, SR1, SR2, SR3, frozen}
use Rattle.rules.specs.Others.{started}
use Rattle.rules.specs.Refusals.{refusal_of}
use Rattle.rules.specs.Step.{step, accepted}
use Rattle.status.specs.Starts.{started_of, status_of, AsInTheStore}

module _ (l : List ℕ) (n : ℕ) (whole : length l ≡ 100) where
  changed : status_of (set (set l SR1 0) SR2 n) ≡ record { sr0 = word l SR0; sr1 = 0; sr2 = n; sr3 = word l SR3 }
  changed =
      rw (
        get_or-set_same (set l SR1 0) SR2 n 0 (rw (length-set l SR1 0) (omega arith)),
        get_or-set_other (set l SR1 0) SR2 SR1 n 0 (λ z. omega arith),
        get_or-set_same l SR1 0 0 (omega arith),
        get_or-set_other (set l SR1 0) SR2 SR0 n 0 (λ z. omega arith),
        get_or-set_other l SR1 SR0 0 0 (λ z. omega arith),
        get_or-set_other (set l SR1 0) SR2 SR3 n 0 (λ z. omega arith),
        get_or-set_other l SR1 SR3 0 0 (λ z. omega arith),
      )

  by_ice : (ice : Bool)
      → status_of (cond ice l (set (set l SR1 0) SR2 n)) ≡ cond ice (status_of l) (record { sr0 = word l SR0; sr1 = 0; sr2 = n; sr3 = word l SR3 })
  by_ice true = refl
  by_ice false = changed

pub as_in_the_store : AsInTheStore
unfolding step refusal_of accepted started started_of
as_in_the_store l n whole = (
  rw (eq-eqb (length l) 100 whole) (by_ice l n whole (frozen (word l SR0))),
  rw (eq-eqb (length l) 100 whole) (by_ice l n whole (frozen (word l SR0))),
)
