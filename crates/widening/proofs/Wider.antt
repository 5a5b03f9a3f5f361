-- A map at least as wide as another: what a permitted step, and so a whole run, makes of a map. Reflexive and transitive, field by field.
use mathlib.Core.Path.{◌≡◌, ◌∙◌, ap}
use mathlib.Core.Bool.{Bool, true, false, cond}
use mathlib.Core.List.{List}
use Prim.Native.Nat.{ℕ, ◌<◌, ◌%◌}
use native.Mathlib.Omega.{arith}
use lib.Dec.{eqb, leb}
use lib.ListN.{length}
use borrow.Author.Tests.{leb-true, le-leb}
use Rattle.page.specs.Fields.{base_of, length_of, ed_of}
use Rattle.rules.specs.Keys.{key_of, non_resident, read_only}
use Rattle.rules.specs.Words.{word, PDR, SR0, SR3, relocates}
use Rattle.widening.specs.Widens.{keeps_blocks}
use Rattle.widening.proofs.Fields.{SameFields}

-- a resident page with at least the blocks and the rights it had, at the same place in memory
pub record PageWider (par pdr par' pdr' : ℕ) : Type 0 where
  pub base : base_of par' ≡ base_of par
  pub ed : ed_of pdr' ≡ ed_of pdr
  pub blocks : keeps_blocks pdr pdr' ≡ true
  pub resident : non_resident (key_of pdr') ≡ false
  pub writable : read_only (key_of pdr) ≡ false → read_only (key_of pdr') ≡ false

-- every page that was resident is so, and is wider
pub record Wider (l m : List ℕ) : Type 0 where
  pub size : length m ≡ length l
  pub on : relocates (word l SR0) ≡ true → relocates (word m SR0) ≡ true
  pub sr3 : word m SR3 ≡ word l SR3
  pub pages : (p : ℕ) → p < 48 → non_resident (key_of (word l (PDR p))) ≡ false
      → PageWider (word l p) (word l (PDR p)) (word m p) (word m (PDR p))

-- the length test over its direction
blocks-same : (b : Bool) (x : ℕ) → cond b (leb x x) (leb x x) ≡ true
blocks-same true x = le-leb x x (omega arith)
blocks-same false x = le-leb x x (omega arith)

blocks_trans : (b : Bool) (x y z : ℕ) → cond b (leb x y) (leb y x) ≡ true → cond b (leb y z) (leb z y) ≡ true → cond b (leb x z) (leb z x) ≡ true
blocks_trans true x y z h k = le-leb x z (omega (arith, leb-true x y h, leb-true y z k))
blocks_trans false x y z h k = le-leb z x (omega (arith, leb-true y x h, leb-true z y k))

pub same_wider : (par pdr par' pdr' : ℕ) → base_of par' ≡ base_of par
    → SameFields pdr pdr' → non_resident (key_of pdr) ≡ false → PageWider par pdr par' pdr'
same_wider par pdr par' pdr' b f r =
    record {
      base = b;
      ed = f.ed;
      blocks = rw f.len (blocks-same (eqb (ed_of pdr) 0) (length_of pdr));
      resident = rw f.key r;
      writable = λ w. rw f.key w;
    }

pub page_trans : {par pdr par' pdr' par'' pdr'' : ℕ} → PageWider par pdr par' pdr' → PageWider par' pdr' par'' pdr'' → PageWider par pdr par'' pdr''
page_trans {par} {pdr} {par'} {pdr'} {par''} {pdr''} h k =
    record {
      base = k.base ∙ h.base;
      ed = k.ed ∙ h.ed;
      blocks = blocks_trans (eqb (ed_of pdr) 0) (length_of pdr) (length_of pdr') (length_of pdr'') h.blocks (rw h.ed at k.blocks);
      resident = k.resident;
      writable = λ w. k.writable (h.writable w);
    }

pub wider_trans : (k l m : List ℕ) → Wider k l → Wider l m → Wider k m
wider_trans k l m h w =
    record {
      size = w.size ∙ h.size;
      on = λ o. w.on (h.on o);
      sr3 = w.sr3 ∙ h.sr3;
      pages = λ p s r. let a = h.pages p s r in page_trans a (w.pages p s a.resident);
    }

-- the same map: all that a reference's grant goes by is as it was
pub record SameMap (l m : List ℕ) : Type 0 where
  pub size : length m ≡ length l
  pub sr0 : word m SR0 % 2 ≡ word l SR0 % 2
  pub sr3 : word m SR3 ≡ word l SR3
  pub pars : (p : ℕ) → p < 48 → word m p ≡ word l p
  pub pdrs : (p : ℕ) → p < 48 → SameFields (word l (PDR p)) (word m (PDR p))

pub same_map : (l m : List ℕ) → SameMap l m → Wider l m
same_map l m s =
    record {
      size = s.size;
      on = λ o. rw s.sr0 o;
      sr3 = s.sr3;
      pages = λ p b r. same_wider (word l p) (word l (PDR p)) (word m p) (word m (PDR p)) (ap base_of (s.pars p b)) (s.pdrs p b) r;
    }
