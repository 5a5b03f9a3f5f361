-- The allowed blocks of a page are a range, so a page reaches a block exactly if one of the range lies there.
use mathlib.Core.Path.{◌≡◌, refl, ◌∙◌}
use mathlib.Core.Bool.{Bool, true, false, cond, not, and-eq-true_iff, false≢true}
use mathlib.Core.List.{List}
use Prim.Native.Nat.{ℕ, ◌+◌, ◌-◌, ◌≤◌, ◌<◌}
use native.Mathlib.Omega.{arith}
use lib.Dec.{eqb, ltb}
use borrow.Author.Tests.{le-ltb, ltb-false, not-true}
use Rattle.page.specs.Fields.{ed_of, length_of}
use Rattle.page.specs.Length.{length_error}
use Rattle.page.specs.Sum.{memory_block}
use Rattle.rules.specs.Keys.{key_of, non_resident}
use Rattle.rules.specs.Words.{word, PDR}
use Rattle.widening.specs.Some.{some}
use Rattle.widening.specs.Reaches.{allows, page_reaches}
use Rattle.widening.proofs.Reached.{some-found, some_holds}
use Rattle.std.proofs.lemmas.Bool.Decides.{same_from_decides}
use Rattle.reach.proofs.Holds.{on_page}
use Rattle.meetings.specs.Pass.{first_block, end_block}

-- the allowed blocks of a page are a range: x the test of ED
in_range : (x : Bool) (n b : ℕ) → b < 128 → cond x (ltb n b) (ltb b n) ≡ false → (cond x 0 n ≤ b) × (b < cond x (n + 1) 128)
in_range true n b h e = let k = ltb-false n b e in (omega arith, omega arith)
in_range false n b h e = let k = ltb-false b n e in (omega arith, omega arith)

range_in : (x : Bool) (n b : ℕ) → n < 128 → cond x 0 n ≤ b → b < cond x (n + 1) 128 → (cond x (ltb n b) (ltb b n) ≡ false) × (b < 128)
range_in true n b h p q = (le-ltb n b (omega arith), omega arith)
range_in false n b h p q = (le-ltb b n (omega arith), omega arith)

range_small : (pdr : ℕ) → (first_block pdr ≤ end_block pdr) × (end_block pdr ≤ 128)
range_small pdr = at (eqb (ed_of pdr) 0) (length_of pdr) (omega arith)
  where
    at : (x : Bool) (n : ℕ) → n < 128 → (cond x 0 n ≤ cond x (n + 1) 128) × (cond x (n + 1) 128 ≤ 128)
    at true n h = (omega arith, omega arith)
    at false n h = (omega arith, omega arith)

module _ (par pdr block : ℕ) where
  abbrev at : ℕ → Bool
  at b = eqb (memory_block par b) block

  into_range : some (on_page par pdr block) 0 128 ≡ true → non_resident (key_of pdr) ≡ false
      → some at (first_block pdr) (end_block pdr - first_block pdr) ≡ true
  unfolding length_error
  into_range t n =
      let s = some-found (on_page par pdr block) 0 128 t in
      let k = (and-eq-true_iff (allows pdr s.0) (at s.0)).0 s.3 in
      let a = (and-eq-true_iff (not (non_resident (key_of pdr))) (not (length_error pdr s.0))).0 k.0 in
      let r = in_range (eqb (ed_of pdr) 0) (length_of pdr) s.0 (omega (arith, s.2)) (not-true _ a.1) in
      let z = range_small pdr in
      some_holds at (first_block pdr) (end_block pdr - first_block pdr) s.0 r.0 (omega (arith, r.1, z.0)) k.1

  out_of_range : non_resident (key_of pdr) ≡ false → some at (first_block pdr) (end_block pdr - first_block pdr) ≡ true
      → some (on_page par pdr block) 0 128 ≡ true
  unfolding length_error
  out_of_range n t =
      let s = some-found at (first_block pdr) (end_block pdr - first_block pdr) t in
      let z = range_small pdr in
      let r = range_in (eqb (ed_of pdr) 0) (length_of pdr) s.0 (omega arith) s.1 (omega (arith, s.2, z.0)) in
      some_holds (on_page par pdr block) 0 128 s.0 (omega arith) (omega (arith, r.1))
      ((and-eq-true_iff (allows pdr s.0) (at s.0)).1 (rw (n, r.0), s.3))

  -- a page that is not resident reaches nothing
  absent_none : non_resident (key_of pdr) ≡ true → some (on_page par pdr block) 0 128 ≡ false
  absent_none n = none (some (on_page par pdr block) 0 128) refl
    where
      none : (x : Bool) → some (on_page par pdr block) 0 128 ≡ x → some (on_page par pdr block) 0 128 ≡ false
      none true e =
          let s = some-found (on_page par pdr block) 0 128 e in
          let k = (and-eq-true_iff (allows pdr s.0) (at s.0)).0 s.3 in
          let a = (and-eq-true_iff (not (non_resident (key_of pdr))) (not (length_error pdr s.0))).0 k.0 in
          absurd (false≢true (rw n at a.0))
      none false e = e

-- a page reaches a block exactly if one of its range lies there
pub by-range : (l : List ℕ) (block page : ℕ)
    → page_reaches l block page
    ≡ cond (non_resident (key_of (word l (PDR page)))) false
    (some (λ b. eqb (memory_block (word l page) b) block) (first_block (word l (PDR page)))
    (end_block (word l (PDR page)) - first_block (word l (PDR page))))
unfolding page_reaches
by-range l block page = by (non_resident (key_of pdr)) refl
  where
    par : ℕ
    par = word l page

    pdr : ℕ
    pdr = word l (PDR page)

    range : Bool
    range = some (λ b. eqb (memory_block par b) block) (first_block pdr) (end_block pdr - first_block pdr)

    by : (x : Bool) → non_resident (key_of pdr) ≡ x → some (on_page par pdr block) 0 128 ≡ cond (non_resident (key_of pdr)) false range
    by true e = absent_none par pdr block e ∙ rw e
    by false e = same_from_decides {P = range ≡ true} _ _ (λ t. into_range par pdr block t e, out_of_range par pdr block e) (λ t. t, λ t. t) ∙ rw e
