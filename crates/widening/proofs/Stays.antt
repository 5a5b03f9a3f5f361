-- An event that is no accepted write and no INIT leaves the map as it was: word by word of the store that it leaves.
use mathlib.Core.Path.{◌≡◌, refl, sym, ◌∙◌, ap}
use mathlib.Core.Bool.{Bool, true, false, cond}
use mathlib.Core.List.{List}
use Prim.Native.Nat.{ℕ, ◌%◌, ◌≤◌, ◌<◌}
use native.Mathlib.Omega.{arith}
use lib.Dec.{eqb}
use lib.Bits.{bit_or}
use lib.ListN.{length, set, length-set}
use lib.Seq.{get_or-set_same, get_or-set_other}
use borrow.Author.Tests.{eqb-true, eqb-false}
use Rattle.page.specs.Fields.{block_of}
use Rattle.page.specs.Length.{length_error}
use Rattle.page.specs.Sum.{byte_of}
use Rattle.rules.specs.Words.{word, PDR, SR0, SR1, SR2, SR3, relocates, frozen}
use Rattle.rules.specs.References.{
  referred,
  illegal_mode,
  examined,
  ruled,
  page_for,
  uses_d,
  details,
  non_resident_flag,
  read_only_flag,
  aborts,
  condition,
  traps,
  marks_of,
  abort_flags,
  trap_flag,
  sr0_after,
}
use Rattle.rules.specs.Others.{started, noted, with_change}
use Rattle.rules.specs.declared.Reference.{Reference}
use Rattle.rules.proofs.Bools.{cond-last, page-small}
use Rattle.widening.proofs.Fields.{SameFields, same-fields, marked, sr0-low}
use Rattle.widening.proofs.Wider.{SameMap}

-- a word after a store at place i: the value there, and elsewhere the word that was
pub at_set : (P : ℕ → Type 0) (l : List ℕ) (i j v : ℕ) → i < length l → (j ≡ i → P v) → ((j ≡ i → ⊥) → P (word l j)) → P (word (set l i v) j)
at_set P l i j v b f g = go (eqb j i) refl
  where
    go : (x : Bool) → eqb j i ≡ x → P (word (set l i v) j)
    go true e = rw (eqb-true j i e, get_or-set_same l i v 0 b) (f (eqb-true j i e))
    go false e = rw (get_or-set_other l i j v 0 (eqb-false j i e)) (g (eqb-false j i e))

pub same_self : (l : List ℕ) → SameMap l l
same_self l = record { size = refl; sr0 = refl; sr3 = refl; pars = λ p b. refl; pdrs = λ p b. same-fields (word l (PDR p)) }

same_trans : (k l m : List ℕ) → SameMap k l → SameMap l m → SameMap k m
same_trans k l m h w =
    record {
      size = w.size ∙ h.size;
      sr0 = w.sr0 ∙ h.sr0;
      sr3 = w.sr3 ∙ h.sr3;
      pars = λ p b. w.pars p b ∙ h.pars p b;
      pdrs = λ p b.
          record {
            key = (w.pdrs p b).key ∙ (h.pdrs p b).key;
            ed = (w.pdrs p b).ed ∙ (h.pdrs p b).ed;
            len = (w.pdrs p b).len ∙ (h.pdrs p b).len;
          };
    }

same-either : (l : List ℕ) (x : Bool) (a b : List ℕ) → SameMap l a → SameMap l b → SameMap l (cond x a b)
same-either l true a b h k = h
same-either l false a b h k = k

-- a store to SR0, SR1 or SR2 that keeps bit 0 of SR0
set_status : (l : List ℕ) (i v : ℕ) → 96 ≤ i → i < 99 → length l ≡ 100 → (SR0 ≡ i → v % 2 ≡ word l SR0 % 2) → SameMap l (set l i v)
set_status l i v low high whole kept =
    record {
      size = length-set l i v;
      sr0 = at_set (λ (x : ℕ). x % 2 ≡ word l SR0 % 2) l i SR0 v (omega arith) kept (λ n. refl);
      sr3 = get_or-set_other l i SR3 v 0 (λ e. omega arith);
      pars = λ p b. get_or-set_other l i p v 0 (λ e. omega arith);
      pdrs = λ p b. rw (get_or-set_other l i (PDR p) v 0 (λ e. omega arith)) (same-fields (word l (PDR p)));
    }

-- a store to a page's PDR that keeps its fields
set-pdr : (l : List ℕ) (q v : ℕ) → q < 48 → length l ≡ 100 → SameFields (word l (PDR q)) v → SameMap l (set l (PDR q) v)
set-pdr l q v small whole f =
    record {
      size = length-set l (PDR q) v;
      sr0 = ap (λ (x : ℕ). x % 2) (get_or-set_other l (PDR q) SR0 v 0 (λ e. omega arith));
      sr3 = get_or-set_other l (PDR q) SR3 v 0 (λ e. omega arith);
      pars = λ p b. get_or-set_other l (PDR q) p v 0 (λ e. omega arith);
      pdrs = λ p b.
          at_set (SameFields (word l (PDR p))) l (PDR q) (PDR p) v (omega arith) (λ e. rw e f) (λ n. same-fields (word l (PDR p)));
    }

-- rules 8 and 9: SR0 takes even flags and details
set-sr0 : (l : List ℕ) (sr0 flags loaded : ℕ) → length l ≡ 100 → sr0 % 2 ≡ word l SR0 % 2 → flags % 2 ≡ 0 → loaded % 2 ≡ 0
    → SameMap l (set l SR0 (sr0_after sr0 flags loaded))
set-sr0 l sr0 flags loaded whole low f d =
    set_status l SR0 (sr0_after sr0 flags loaded) (omega arith) (omega arith) whole (λ e. sr0-low sr0 flags loaded f d ∙ low)

module _ (l : List ℕ) (whole : length l ≡ 100) where
  ruled-same : (page : ℕ) (write : Bool) (loaded va : ℕ) → page < 48 → loaded % 2 ≡ 0 → SameMap l (ruled l page write loaded va).1
  unfolding ruled
  ruled-same page write loaded va small even =
      let pdr = word l (PDR page) in
      let byte = byte_of (word l page) va in
      let marks = bit_or pdr (marks_of byte (condition pdr write) write) in
      let m = set l (PDR page) marks in
      let s = set-pdr l page marks small whole (marked pdr byte (condition pdr write) write) in
      let trap = trap_flag (traps (word l SR0) pdr write) in
      let flags = abort_flags (non_resident_flag pdr) (length_error pdr (block_of va)) (read_only_flag pdr write) in
      simp cond-last
      (same-either l (aborts pdr write va) _ _ (set-sr0 l (word l SR0) flags loaded whole refl (omega arith) even)
      (same_trans l m _ s (set-sr0 m (word l SR0) trap loaded (s.size ∙ whole) (sym s.sr0) (omega arith) even)))

  pub referred-same : (r : Reference) → SameMap l (referred l r).1
  unfolding referred illegal_mode examined
  referred-same r =
      let d = uses_d (word l SR3) r.mode r.space in
      simp cond-last
      (same-either l (relocates (word l SR0)) _ _
      (same-either l (eqb r.mode 2) _ _
      (set-sr0 l (word l SR0) 0o100000 (details r.phase 2 false r.va) whole refl (omega arith) (omega arith))
      (ruled-same (page_for l r) (eqb r.access 1) (details r.phase r.mode d r.va) r.va (page-small l r) (omega arith)))
      (same_self l))

  pub started-same : (n : ℕ) → SameMap l (started l n)
  unfolding started
  started-same n =
      let s = set_status l SR1 0 (omega arith) (omega arith) whole (λ e. absurd (omega arith)) in
      same-either l (frozen (word l SR0)) _ _ (same_self l)
      (same_trans l (set l SR1 0) _ s (set_status (set l SR1 0) SR2 n (omega arith) (omega arith) (s.size ∙ whole) (λ e. absurd (omega arith))))

  pub noted-same : (byte : ℕ) → SameMap l (noted l byte)
  unfolding noted
  noted-same byte =
      same-either l (frozen (word l SR0)) _ _ (same_self l)
      (set_status l SR1 (with_change (word l SR1) byte) (omega arith) (omega arith) whole (λ e. absurd (omega arith)))
