-- Demand 2, "exactly": with relocation on, a reference that is not refused is granted exactly when mode, key and length allow it,
-- at the byte of the manual's sum, served by rule 3's page; else it is aborted with exactly the flags of rule 4.
use Rattle.std.specs.Prelude.{ℕ, ◌≤◌, ◌≡◌, ◌↔◌, Bool, true, false, cond, ◌||◌, List, length, eqb, Some}
use Rattle.std.specs.declared.option.Option.{Option}
use Rattle.page.specs.Fields.{block_of}
use Rattle.page.specs.Length.{length_error}
use Rattle.page.specs.Sum.{byte_of}
use Rattle.rules.specs.Paper.{G, A}
use Rattle.rules.specs.Keys.{key_of, right_of}
use Rattle.rules.specs.Words.{word, PDR, SR0, relocates}
use Rattle.rules.specs.References.{page_for, non_resident_flag, read_only_flag, traps}
use Rattle.rules.specs.Step.{step}
use Rattle.rules.specs.declared.Reference.{Reference}
use Rattle.rules.specs.declared.Event.TheVariants.{Refer}

-- a reference that is not refused, with relocation on
pub record Relocated (l : List ℕ) (r : Reference) : Type 0 where
  pub whole : length l ≡ 100
  pub moded : r.mode ≤ 3
  pub spaced : r.space ≤ 1
  pub accessed : r.access ≤ 1
  pub phased : r.phase ≤ 1
  pub on : relocates (word l SR0) ≡ true

-- PAR and PDR of the page of rule 3
abbrev pub par_for : List ℕ → Reference → ℕ
par_for l r = word l (page_for l r)

abbrev pub pdr_for : List ℕ → Reference → ℕ
pdr_for l r = word l (PDR (page_for l r))

abbrev pub writing : Reference → Bool
writing r = eqb r.access 1

-- the mode is not 2, the key gives the right, the block is within the length; the byte is rule 5's, the trap rule 6's, the page rule 3's
pub record Allowed (l : List ℕ) (r : Reference) (byte : ℕ) (trap : Bool) (served : Option ℕ) : Type 0 where
  pub legal : eqb r.mode 2 ≡ false
  pub right : cond (writing r) (right_of (key_of (pdr_for l r))).write (right_of (key_of (pdr_for l r))).read ≡ true
  pub within : length_error (pdr_for l r) (block_of r.va) ≡ false
  pub sum : byte_of (par_for l r) r.va ≡ byte
  pub trapped : traps (word l SR0) (pdr_for l r) (writing r) ≡ trap
  pub page : Some (page_for l r) ≡ served

abbrev pub GrantedExactly : Type 0
GrantedExactly =
    (l : List ℕ) (r : Reference) → Relocated l r
    → (byte : ℕ) (trap : Bool) (served : Option ℕ) → ((step l (Refer r)).0 ≡ G byte trap served) ↔ Allowed l r byte trap served

-- rule 2's flag, or rule 4's three, each by its own test; and one at least is set
pub record Barred (l : List ℕ) (r : Reference) (nonresident length readonly : Bool) : Type 0 where
  pub absent : cond (eqb r.mode 2) true (non_resident_flag (pdr_for l r)) ≡ nonresident
  pub beyond : cond (eqb r.mode 2) false (length_error (pdr_for l r) (block_of r.va)) ≡ length
  pub unwritable : cond (eqb r.mode 2) false (read_only_flag (pdr_for l r) (writing r)) ≡ readonly
  pub flagged : (nonresident || length || readonly) ≡ true

abbrev pub AbortedExactly : Type 0
AbortedExactly =
    (l : List ℕ) (r : Reference) → Relocated l r
    → (n e o : Bool) → ((step l (Refer r)).0 ≡ A n e o) ↔ Barred l r n e o

pub record Demand2 : Type 0 where
  pub granted : GrantedExactly
  pub aborted : AbortedExactly
