-- The answer to a reference by its tests, one after the other, and what a grant tells of them: case by case.
use mathlib.Core.Path.{◌≡◌, refl, sym, ◌∙◌}
use Rattle.std.specs.declared.option.Option.{Option}
use Rattle.std.proofs.Common.{None, Some}
use mathlib.Core.Bool.{Bool, true, false, cond, false≢true}
use mathlib.Core.List.{List}
use Prim.Native.Nat.{ℕ}
use native.Mathlib.Omega.{arith}
use lib.Dec.{eqb}
use Rattle.page.specs.Fields.{block_of}
use Rattle.page.specs.Length.{length_error}
use Rattle.page.specs.Sum.{byte_of}
use Rattle.rules.specs.Paper.{Paper, G, A, X}
use Rattle.rules.specs.Words.{word, PDR, SR0, relocates}
use Rattle.rules.specs.References.{
  flat_byte,
  page_for,
  non_resident_flag,
  read_only_flag,
  aborts,
  traps,
  ruled,
  examined,
  illegal_mode,
  referred,
}
use Rattle.rules.specs.Refusals.{refusal_of}
use Rattle.rules.specs.Step.{step, accepted}
use Rattle.rules.specs.declared.Reference.{Reference}
use Rattle.rules.specs.declared.Event.TheVariants.{Refer}
use Rattle.rules.proofs.Bools.{cond-first}

-- x accepted, or refused by n; y relocation on, or the byte f; z mode 2; a aborted by three flags, or granted at a byte by a page
unfoldable pub answer : (x y z a : Bool) (n f : ℕ) (nonresident length readonly : Bool) (byte : ℕ) (trap : Bool) (page : ℕ) → Paper
answer x y z a n f nonresident length readonly byte trap page =
    cond x
    (cond y (cond z (A true false false) (cond a (A nonresident length readonly) (G byte trap (Some page)))) (G f false None))
    (X n)

-- it was not refused; a page is there if relocation is on; and then the mode is legal, no flag was set, and byte and trap are the page's
granted-by :
    (x y z a : Bool) (n f : ℕ) (p q s : Bool) (byte b : ℕ) (trap t : Bool) (page : ℕ) (served : Option ℕ)
    → answer x y z a n f p q s byte trap page ≡ G b t served
    → (x ≡ true) × (served ≡ cond y (Some page) None) × (y ≡ true → (z ≡ false) × (a ≡ false) × (b ≡ byte) × (t ≡ trap))
unfolding answer
granted-by false y z a n f p q s byte b trap t page served h = let e : ◌≡◌ {A = ℕ} 0 1 = cc in absurd (omega arith)
granted-by true false z a n f p q s byte b trap t page served h = (refl, cc, λ e. absurd (false≢true e))
granted-by true true true a n f p q s byte b trap t page served h = let e : ◌≡◌ {A = ℕ} 0 1 = cc in absurd (omega arith)
granted-by true true false true n f p q s byte b trap t page served h = let e : ◌≡◌ {A = ℕ} 0 1 = cc in absurd (omega arith)
granted-by true true false false n f p q s byte b trap t page served h = (refl, cc, λ e. (refl, refl, cc, cc))

module _ (l : List ℕ) (r : Reference) where
  abbrev pdr : ℕ
  pdr = word l (PDR (page_for l r))

  abbrev write : Bool
  write = eqb r.access 1

  -- the answer to a reference, by those tests
  pub answered : (step l (Refer r)).0
      ≡ answer (eqb (refusal_of l (Refer r)) 0) (relocates (word l SR0)) (eqb r.mode 2) (aborts pdr write r.va)
      (refusal_of l (Refer r)) (flat_byte r.va)
      (non_resident_flag pdr) (length_error pdr (block_of r.va)) (read_only_flag pdr write)
      (byte_of (word l (page_for l r)) r.va) (traps (word l SR0) pdr write) (page_for l r)
  unfolding step accepted referred illegal_mode examined ruled answer
  answered = simp cond-first

  -- and what a grant tells of it
  pub granted-tells : (byte : ℕ) (trap : Bool) (served : Option ℕ) → (step l (Refer r)).0 ≡ G byte trap served
      → (eqb (refusal_of l (Refer r)) 0 ≡ true)
      × (served ≡ cond (relocates (word l SR0)) (Some (page_for l r)) None)
      × (relocates (word l SR0) ≡ true
      → (eqb r.mode 2 ≡ false)
      × (aborts pdr write r.va ≡ false)
      × (byte ≡ byte_of (word l (page_for l r)) r.va)
      × (trap ≡ traps (word l SR0) pdr write))
  granted-tells byte trap served g = granted-by _ _ _ _ _ _ _ _ _ _ byte _ trap _ served (sym answered ∙ g)
