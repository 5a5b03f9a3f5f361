-- The two of a block after all pages: of the modes that reach it the two lowest, each with its lowest page. The pages of a mode
-- stand together, so a mode adds its lowest page as the first, or as the second, or not at all.
use mathlib.Core.Path.{◌≡◌, refl, ◌∙◌}
use mathlib.Core.Bool.{Bool, true, false, cond, ◌||◌}
use mathlib.Core.List.{List}
use Prim.Native.Nat.{ℕ, zero, suc, ◌+◌, ◌*◌, ◌/◌, ◌≤◌, ◌<◌}
use native.Mathlib.Omega.{arith}
use borrow.Author.Tests.{eq-eqb, ne_eqb, ltb-true}
use Rattle.std.proofs.Common.{Some, None}
use Rattle.rules.specs.Words.{word, SR3, enables_d}
use Rattle.rules.specs.References.{first_page}
use Rattle.widening.specs.Some.{some}
use Rattle.widening.specs.Reaches.{page_reaches, pages_of}
use Rattle.meetings.specs.Firsts.{first_of}
use Rattle.meetings.specs.Parting.{lowest_page}
use Rattle.meetings.proofs.First.{first_some}
use Rattle.meetings.proofs.Tracks.{Two, neither, seeing}
use Rattle.meetings.proofs.Passes.{passing}

-- the first that passes is in its range
pub first_from : (f : ℕ → Bool) (i n : ℕ) → i ≤ first_of f i n
first_from f i zero = omega arith
first_from f i (suc n) = at (f i) (first_from f (suc i) n)
  where
    at : (x : Bool) → suc i ≤ first_of f (suc i) n → i ≤ cond x i (first_of f (suc i) n)
    at true h = omega arith
    at false h = omega arith

pub first_in : (f : ℕ → Bool) (i n : ℕ) → some f i n ≡ true → first_of f i n < i + n
first_in f i n h = ltb-true (first_of f i n) (i + n) (first_some f i n ∙ h)

module _ (l : List ℕ) (x : ℕ) where
  -- two that no page of a range changes
  kept : (page n : ℕ) (a : Two) → ((p : ℕ) → page ≤ p → p < page + n → seeing p a ≡ a) → passing l x page n a ≡ a
  unfolding passing
  kept page zero a h = refl
  kept page (suc n) a h =
      let same : cond (page_reaches l x page) (seeing page a) a ≡ a = at (page_reaches l x page) in
      rw same (kept (suc page) n a (λ p b c. h p (omega arith) (omega arith)))
    where
      at : (b : Bool) → cond b (seeing page a) a ≡ a
      at true = h page (omega arith) (omega arith)
      at false = refl

  -- a block that has both, through any pages
  full : (page n f s : ℕ) → passing l x page n (Some f, Some s) ≡ (Some f, Some s)
  unfolding seeing
  full page n f s = kept page n (Some f, Some s) (λ p u v. refl)

  -- the mode of the first page
  own_mode : (p f : ℕ) → f / 16 ≡ p / 16 → seeing p (Some f, None) ≡ (Some f, None)
  unfolding seeing
  own_mode p f m = rw (eq-eqb (f / 16) (p / 16) m)

  -- a mode's pages, where the block has no first yet, and where its first is of another mode
  fresh : (k page n : ℕ) → 16 * k ≤ page → page + n ≤ 16 * k + 16
      → passing l x page n neither ≡ cond (some (page_reaches l x) page n) (Some (first_of (page_reaches l x) page n), None) neither
  unfolding passing seeing
  fresh k page zero a b = refl
  fresh k page (suc n) a b = at (page_reaches l x page) refl (fresh k (suc page) n)
    where
      at : (r : Bool) → page_reaches l x page ≡ r → (16 * k ≤ suc page → suc page + n ≤ 16 * k + 16
          → passing l x (suc page) n neither ≡ cond (some (page_reaches l x) (suc page) n) (Some (first_of (page_reaches l x) (suc page) n), None) neither)
          → passing l x (suc page) n (cond (page_reaches l x page) (seeing page neither) neither)
          ≡ cond (page_reaches l x page || some (page_reaches l x) (suc page) n)
          (Some (cond (page_reaches l x page) page (first_of (page_reaches l x) (suc page) n)), None) neither
      at true e r = rw e (kept (suc page) n (Some page, None) (λ p u v. own_mode p page (omega arith)))
      at false e r = rw e (r (omega arith) (omega arith))

  other : (k page n f : ℕ) → 16 * k ≤ page → page + n ≤ 16 * k + 16 → (f / 16 ≡ k → ⊥)
      → passing l x page n (Some f, None)
      ≡ (Some f, cond (some (page_reaches l x) page n) (Some (first_of (page_reaches l x) page n)) None)
  unfolding passing seeing
  other k page zero f a b d = refl
  other k page (suc n) f a b d = at (page_reaches l x page) refl (other k (suc page) n f)
    where
      at : (r : Bool) → page_reaches l x page ≡ r → (16 * k ≤ suc page → suc page + n ≤ 16 * k + 16 → (f / 16 ≡ k → ⊥)
          → passing l x (suc page) n (Some f, None)
          ≡ (Some f, cond (some (page_reaches l x) (suc page) n) (Some (first_of (page_reaches l x) (suc page) n)) None))
          → passing l x (suc page) n (cond (page_reaches l x page) (seeing page (Some f, None)) (Some f, None))
          ≡ (
            Some f,
            cond (page_reaches l x page || some (page_reaches l x) (suc page) n)
                (Some (cond (page_reaches l x page) page (first_of (page_reaches l x) (suc page) n))) None,
          )
      at true e r =
          let m : page / 16 ≡ k = omega arith in
          rw (e, ne_eqb (f / 16) (page / 16) (λ q. d (q ∙ m))) (full (suc page) n f page)
      at false e r = rw e (r (omega arith) (omega arith) d)

  -- how many pages of a mode
  abbrev pub pages : ℕ → ℕ
  pages mode = pages_of (word l SR3) mode

  pub pages-few : (mode : ℕ) → pages mode ≤ 16
  pages-few mode = at (enables_d (word l SR3) mode)
    where
      at : (b : Bool) → cond b 16 8 ≤ 16
      at true = omega arith
      at false = omega arith

  abbrev pub reached : ℕ → Bool
  reached mode = some (page_reaches l x) (first_page mode) (pages mode)

  abbrev pub low : ℕ → ℕ
  low mode = lowest_page l x mode

  -- the whole of a mode; the modes' pages begin at 0, 16 and 32
  fresh-mode : (k mode : ℕ) → first_page mode ≡ 16 * k
      → passing l x (first_page mode) (pages mode) neither ≡ cond (reached mode) (Some (low mode), None) neither
  fresh-mode k mode e = let n = pages-few mode in fresh k (first_page mode) (pages mode) (omega arith) (omega arith)

  other-mode : (k mode f : ℕ) → first_page mode ≡ 16 * k → (f / 16 ≡ k → ⊥)
      → passing l x (first_page mode) (pages mode) (Some f, None) ≡ (Some f, cond (reached mode) (Some (low mode)) None)
  other-mode k mode f e d = let n = pages-few mode in other k (first_page mode) (pages mode) f (omega arith) (omega arith) d

  low_in : (k mode : ℕ) → first_page mode ≡ 16 * k → reached mode ≡ true → low mode / 16 ≡ k
  low_in k mode e h =
      let n = pages-few mode in
      let a = first_from (page_reaches l x) (first_page mode) (pages mode) in
      let b = first_in (page_reaches l x) (first_page mode) (pages mode) h in
      omega arith

  -- the two of a block after Kernel, Supervisor and User
  abbrev pub two_at : Two
  two_at = passing l x 32 (pages 3) (passing l x 16 (pages 1) (passing l x 0 (pages 0) neither))

  -- a, b and c: Kernel, Supervisor and User reach it
  abbrev pub two_of : Bool → Bool → Bool → Two
  two_of a b c =
      let user = cond c (Some (low 3)) None in
      cond a (Some (low 0), cond b (Some (low 1)) user) (cond b (Some (low 1), user) (user, None))

  pub two_modes : two_at ≡ two_of (reached 0) (reached 1) (reached 3)
  two_modes = rw (fresh-mode 0 0 refl) (at (reached 0) (reached 1) refl refl)
    where
      user : (c : Bool) → ◌≡◌ {A = Two} (cond c (Some (low 3), None) neither) (cond c (Some (low 3)) None, None)
      user true = refl
      user false = refl

      next : (b : Bool) → reached 1 ≡ b → low 0 / 16 ≡ 0
          → passing l x 32 (pages 3) (Some (low 0), cond (reached 1) (Some (low 1)) None)
          ≡ (Some (low 0), cond (reached 1) (Some (low 1)) (cond (reached 3) (Some (low 3)) None))
      next true f p = rw f (full 32 (pages 3) (low 0) (low 1))
      next false f p = rw f (other-mode 2 3 (low 0) refl (λ z. omega arith))

      at : (a b : Bool) → reached 0 ≡ a → reached 1 ≡ b
          → passing l x 32 (pages 3) (passing l x 16 (pages 1) (cond (reached 0) (Some (low 0), None) neither)) ≡ two_of (reached 0) (reached 1) (reached 3)
      at true b e f = let p = low_in 0 0 refl e in rw (e, other-mode 1 1 (low 0) refl (λ z. omega arith)) (next b f p)
      at false true e f =
          let q = low_in 1 1 refl f in
          rw (e, fresh-mode 1 1 refl, f) (other-mode 2 3 (low 1) refl (λ z. omega arith))
      at false false e f = rw (e, fresh-mode 1 1 refl, f) (fresh-mode 2 3 refl ∙ user (reached 3))
