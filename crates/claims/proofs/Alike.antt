-- Stores that agree on the implemented bits: what the rules read of them is the same, and alike changes keep them alike.
use mathlib.Core.Path.{◌≡◌, refl, sym, ◌∙◌}
use mathlib.Core.Bool.{Bool, true, false, cond}
use mathlib.Core.List.{List}
use Prim.Native.Nat.{ℕ, ◌+◌, ◌%◌, ◌^◌, ◌<◌}
use native.Mathlib.Omega.{arith}
use lib.Dec.{eqb, ltb}
use lib.ListN.{length, set, length-set}
use lib.Seq.{get_or-set_same, get_or-set_other, set_out}
use borrow.Author.Tests.{eqb-true, eqb-false, ltb-true, ltb-false, lt-ltb, le-ltb}
use Rattle.page.specs.Fields.{base_of}
use Rattle.page.specs.Length.{length_error}
use Rattle.rules.specs.Keys.{key_of}
use Rattle.rules.specs.Words.{word, PDR, SR0, SR1, SR3, implemented, relocates, traps_enabled, frozen, enables_d}
use Rattle.rules.specs.Registers.{read_at}
use Rattle.rules.specs.Others.{both_used}
use Rattle.claims.specs.Unimplemented.{Alike}
use Rattle.rules.proofs.Masks.{Same, same-field, same_low}

-- a word stored at one place in both
at_place : (l m : List ℕ) (p v w : ℕ) → Alike l m → Same (implemented p) v w → (x : Bool) → ltb p (length l) ≡ x
    → read_at (set l p v) p ≡ read_at (set m p w) p
at_place l m p v w a h true e =
    let i = ltb-true p (length l) e in
    let n = a.long in
    rw (get_or-set_same l p v 0 i, get_or-set_same m p w 0 (omega arith)) h
at_place l m p v w a h false e =
    let i = ltb-false p (length l) e in
    let n = a.long in
    rw (set_out l p v i, set_out m p w (omega arith)) (a.same p)

by_place : (l m : List ℕ) (p v w i : ℕ) → Alike l m → Same (implemented p) v w → (x : Bool) → eqb i p ≡ x
    → read_at (set l p v) i ≡ read_at (set m p w) i
by_place l m p v w i a h true e = rw (eqb-true i p e) (at_place l m p v w a h (ltb p (length l)) refl)
by_place l m p v w i a h false e =
    rw (get_or-set_other l p i v 0 (eqb-false i p e), get_or-set_other m p i w 0 (eqb-false i p e)) (a.same i)

pub set-alike : (l m : List ℕ) (p v w : ℕ) → Alike l m → Same (implemented p) v w → Alike (set l p v) (set m p w)
set-alike l m p v w a h =
    record {
      long = length-set l p v ∙ a.long ∙ sym (length-set m p w);
      same = λ i. by_place l m p v w i a h (eqb i p) refl;
    }

-- either way of one test
pub cond-alike : (x : Bool) (k l m n : List ℕ) → Alike k m → Alike l n → Alike (cond x k l) (cond x m n)
cond-alike true k l m n a b = a
cond-alike false k l m n a b = b

-- what a page's words say
module _ (l m : List ℕ) (a : Alike l m) (page : ℕ) (small : page < 48) where
  par-same : Same 0o007777 (word l page) (word m page)
  par-same = rw (lt-ltb page 48 small) at (a.same page)

  pub pdr-same : Same 0o077717 (word l (PDR page)) (word m (PDR page))
  pdr-same = rw (le-ltb (48 + page) 48 (omega arith), lt-ltb (48 + page) 96 (omega arith)) at (a.same (PDR page))

  pub base_same : base_of (word l page) ≡ base_of (word m page)
  base_same = same_low 12 0o007777 (word l page) (word m page) refl par-same

  pub key-same : key_of (word l (PDR page)) ≡ key_of (word m (PDR page))
  key-same = same_low 3 0o077717 (word l (PDR page)) (word m (PDR page)) refl pdr-same

  pub length-same : (b : ℕ) → length_error (word l (PDR page)) b ≡ length_error (word m (PDR page)) b
  unfolding length_error
  length-same b =
      rw (
        same-field 3 1 0o077717 (word l (PDR page)) (word m (PDR page)) refl pdr-same,
        same-field 8 7 0o077717 (word l (PDR page)) (word m (PDR page)) refl pdr-same,
      )

-- what the status words say
module _ (l m : List ℕ) (a : Alike l m) where
  pub sr0-same : Same 0o171777 (word l SR0) (word m SR0)
  sr0-same = a.same SR0

  pub on_same : relocates (word l SR0) ≡ relocates (word m SR0)
  on_same = rw (same_low 1 0o171777 (word l SR0) (word m SR0) refl sr0-same)

  pub enabled_same : traps_enabled (word l SR0) ≡ traps_enabled (word m SR0)
  enabled_same = rw (same-field 9 1 0o171777 (word l SR0) (word m SR0) refl sr0-same)

  pub frozen_same : frozen (word l SR0) ≡ frozen (word m SR0)
  frozen_same = rw (same-field 13 3 0o171777 (word l SR0) (word m SR0) refl sr0-same)

  pub enables-same : (mode : ℕ) → enables_d (word l SR3) mode ≡ enables_d (word m SR3) mode
  enables-same mode =
      rw (
        same-field 2 1 0o000017 (word l SR3) (word m SR3) refl (a.same SR3),
        same-field 1 1 0o000017 (word l SR3) (word m SR3) refl (a.same SR3),
        same_low 1 0o000017 (word l SR3) (word m SR3) refl (a.same SR3),
      )

  sr1_low : word l SR1 % 2 ^ 16 ≡ word m SR1 % 2 ^ 16
  sr1_low = same_low 16 0o177777 (word l SR1) (word m SR1) refl (a.same SR1)

  pub used_same : both_used (word l SR1) ≡ both_used (word m SR1)
  used_same =
      rw (
        same_low 8 0o177777 (word l SR1) (word m SR1) refl (a.same SR1),
        same-field 8 8 0o177777 (word l SR1) (word m SR1) refl (a.same SR1),
      )
