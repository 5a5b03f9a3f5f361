-- Modes are apart if every block that a mode reaches has that mode as its owner: a test that computes on a given store.
use mathlib.Core.Path.{◌≡◌, refl, sym, ◌∙◌}
use mathlib.Core.Bool.{Bool, true, false, not, ◌&&◌, false≢true, true≢false, and-eq-true_iff}
use mathlib.Core.List.{List, [], ◌∷◌, map}
use Prim.Native.Nat.{ℕ}
use native.Mathlib.Omega.{arith}
use lib.Dec.{eqb}
use borrow.Author.Tests.{eqb-true, not-true}
use Rattle.page.specs.Sum.{memory_block}
use Rattle.rules.specs.Words.{word, PDR, SR3}
use Rattle.rules.specs.References.{first_page}
use Rattle.widening.specs.Some.{some}
use Rattle.widening.specs.Reaches.{allows, pages_of, reaches, apart}
use Rattle.widening.proofs.Reached.{some-none, reached, by_mode, apart_is}

-- a the block is allowed, e its owner is the mode
both : (a e : Bool) → a ≡ true → (a && not e) ≡ false → e ≡ true
both true true h k = refl
both true false h k = absurd (true≢false k)
both false e h k = absurd (false≢true h)

module _ (owner : ℕ → ℕ) where
  -- block b of a page is allowed and lies in a block of another owner
  unfoldable pub stray : ℕ → ℕ → ℕ → ℕ → Bool
  stray mode par pdr b = allows pdr b && not (eqb (owner (memory_block par b)) mode)

  unfoldable pub strays : List ℕ → ℕ → ℕ → Bool
  strays l mode page = some (stray mode (word l page) (word l (PDR page))) 0 128

  unfoldable pub stray_mode : List ℕ → ℕ → Bool
  stray_mode l mode = some (strays l mode) (first_page mode) (pages_of (word l SR3) mode)

  unfoldable pub owned : List ℕ → Bool
  owned l = not (stray_mode l 0) && not (stray_mode l 1) && not (stray_mode l 3)

  -- no stray block: the owner of a block that the mode reaches is the mode
  owns : (l : List ℕ) (mode block : ℕ) → stray_mode l mode ≡ false → reaches l mode block ≡ true → owner block ≡ mode
  unfolding stray_mode strays stray
  owns l mode block h r =
      let u = reached l mode block r in
      let p = some-none (strays l mode) (first_page mode) (pages_of (word l SR3) mode) u.0 h u.2.first u.2.last in
      let b = some-none (stray mode (word l u.0) (word l (PDR u.0))) 0 128 u.1 p (omega arith) (omega (arith, u.2.within)) in
      rw u.2.lies at (eqb-true (owner (memory_block (word l u.0) u.1)) mode (both _ _ u.2.allowed b))

  pub owned-apart : (l : List ℕ) → owned l ≡ true → apart l ≡ true
  unfolding owned
  owned-apart l h =
      let s = (and-eq-true_iff (not (stray_mode l 0) && not (stray_mode l 1)) (not (stray_mode l 3))).0 h in
      let t = (and-eq-true_iff (not (stray_mode l 0)) (not (stray_mode l 1))).0 s.0 in
      let each : (m block : ℕ) → reaches l m block ≡ true → owner block ≡ m =
      λ m block r.
      by_mode (λ (n : ℕ). reaches l n block ≡ true → owner block ≡ n) (owns l 0 block (not-true _ t.0)) (owns l 1 block (not-true _ t.1))
      (owns l 3 block (not-true _ s.1)) m (reached l m block r).2.legal r in
      (apart_is l).1 (λ m n block p q. sym (each m block p) ∙ each n block q)

-- the same for a list of stores, each with its owners
unfoldable pub all_owned : List (List ℕ) → List (ℕ → ℕ) → Bool
all_owned [] os = true
all_owned (l ∷ ls) [] = false
all_owned (l ∷ ls) (o ∷ os) = owned o l && all_owned ls os

pub all_apart : (ls : List (List ℕ)) (os : List (ℕ → ℕ)) → all_owned ls os ≡ true → map apart ls ≡ map (λ (l : List ℕ). true) ls
unfolding all_owned
all_apart [] os h = refl
all_apart (l ∷ ls) [] h = absurd (false≢true h)
all_apart (l ∷ ls) (o ∷ os) h =
    let t = (and-eq-true_iff (owned o l) (all_owned ls os)).0 h in
    rw (owned-apart o l t.0, all_apart ls os t.1)
