-- `reaches` and `apart` as statements: a test of a range passes exactly if some number of it does.
use mathlib.Core.Path.{◌≡◌, refl, sym, ◌∙◌}
use mathlib.Core.Bool.{Bool, true, false, not, ◌&&◌, ◌||◌, false≢true, true≢false, and-eq-true_iff, or-true}
use mathlib.Core.List.{List}
use Prim.Native.Nat.{ℕ, zero, suc, ◌+◌, ◌≤◌, ◌<◌}
use native.Mathlib.Omega.{arith}
use lib.Dec.{eqb}
use borrow.Author.Tests.{eqb-true, eqb-false, eq-eqb, not-true}
use Rattle.page.specs.Sum.{memory_block}
use Rattle.rules.specs.Words.{word, PDR, SR3}
use Rattle.rules.specs.References.{first_page}
use Rattle.widening.specs.Some.{some}
use Rattle.widening.specs.Reaches.{allows, lies_in, page_reaches, is_mode, pages_of, reaches, shared, apart, Reached, ReachesIs, ApartIs}

pub some-found : (f : ℕ → Bool) (i n : ℕ) → some f i n ≡ true → (j : ℕ) × (i ≤ j) × (j < i + n) × (f j ≡ true)
some-found f i zero h = absurd (false≢true h)
some-found f i (suc n) h = at (f i) refl (some-found f (suc i) n)
  where
    at : (x : Bool) → f i ≡ x → (some f (suc i) n ≡ true → (j : ℕ) × (suc i ≤ j) × (j < suc i + n) × (f j ≡ true))
        → (j : ℕ) × (i ≤ j) × (j < i + suc n) × (f j ≡ true)
    at true e k = (i, omega arith, omega arith, e)
    at false e k = let s = k (rw e at h) in (s.0, omega (arith, s.1), omega (arith, s.2), s.3)

pub some_holds : (f : ℕ → Bool) (i n j : ℕ) → i ≤ j → j < i + n → f j ≡ true → some f i n ≡ true
some_holds f i zero j a b h = absurd (omega arith)
some_holds f i (suc n) j a b h = at (eqb i j) refl (λ c d. some_holds f (suc i) n j c d h)
  where
    at : (x : Bool) → eqb i j ≡ x → (suc i ≤ j → j < suc i + n → some f (suc i) n ≡ true) → (f i || some f (suc i) n) ≡ true
    at true e k = rw (eqb-true i j e, h)
    at false e k = let n = eqb-false i j e in rw (k (omega arith) (omega arith), or-true)

pub some-none : (f : ℕ → Bool) (i n j : ℕ) → some f i n ≡ false → i ≤ j → j < i + n → f j ≡ false
some-none f i n j h a b = at (f j) refl
  where
    at : (x : Bool) → f j ≡ x → f j ≡ false
    at true e = absurd (true≢false (sym (some_holds f i n j a b e) ∙ h))
    at false e = e

pub reached : (l : List ℕ) (mode block : ℕ) → reaches l mode block ≡ true → (page : ℕ) × (b : ℕ) × Reached l mode block page b
unfolding reaches page_reaches
reached l mode block h =
    let t = (and-eq-true_iff (is_mode mode) (some (page_reaches l block) (first_page mode) (pages_of (word l SR3) mode))).0 h in
    let p = some-found (page_reaches l block) (first_page mode) (pages_of (word l SR3) mode) t.1 in
    let b = some-found (lies_in l block p.0) 0 128 p.3 in
    let k = (and-eq-true_iff (allows (word l (PDR p.0)) b.0) (eqb (memory_block (word l p.0) b.0) block)).0 b.3 in
    (p.0, b.0, record { legal = t.0; first = p.1; last = p.2; within = omega (arith, b.2); allowed = k.0; lies = eqb-true _ block k.1 })

pub reaching : (l : List ℕ) (mode block page b : ℕ) → Reached l mode block page b → reaches l mode block ≡ true
unfolding reaches page_reaches
reaching l mode block page b r =
    rw r.legal
    (some_holds (page_reaches l block) (first_page mode) (pages_of (word l SR3) mode) page r.first r.last
    (some_holds (lies_in l block page) 0 128 b (omega arith) (omega (arith, r.within))
    (rw r.allowed (eq-eqb (memory_block (word l page) b) block r.lies))))

pub reaches_is : ReachesIs
reaches_is l mode block = (reached l mode block, λ p. reaching l mode block p.0 p.1 p.2)

-- a mode that reaches is 0, 1 or 3
pub by_mode : (P : ℕ → Type 0) → P 0 → P 1 → P 3 → (m : ℕ) → is_mode m ≡ true → P m
by_mode P a b c m h = at (eqb m 0) (eqb m 1) (eqb m 3) refl refl refl h
  where
    at : (x y z : Bool) → eqb m 0 ≡ x → eqb m 1 ≡ y → eqb m 3 ≡ z → (x || y || z) ≡ true → P m
    at true y z e f g k = rw (eqb-true m 0 e) a
    at false true z e f g k = rw (eqb-true m 1 f) b
    at false false true e f g k = rw (eqb-true m 3 g) c
    at false false false e f g k = absurd (false≢true k)

-- no two of three tests: both ways
no_two : (a b c : Bool) → ((a && b) || (a && c) || (b && c)) ≡ false
    → (a ≡ true → b ≡ true → ⊥) × (a ≡ true → c ≡ true → ⊥) × (b ≡ true → c ≡ true → ⊥)
no_two true true c h = absurd (true≢false h)
no_two true false true h = absurd (true≢false h)
no_two true false false h = (λ x y. false≢true y, λ x y. false≢true y, λ x y. false≢true x)
no_two false true true h = absurd (true≢false h)
no_two false true false h = (λ x y. false≢true x, λ x y. false≢true x, λ x y. false≢true y)
no_two false false c h = (λ x y. false≢true x, λ x y. false≢true x, λ x y. false≢true x)

two : (a b c : Bool) → ((a && b) || (a && c) || (b && c)) ≡ true
    → (a ≡ true → b ≡ true → ⊥) → (a ≡ true → c ≡ true → ⊥) → (b ≡ true → c ≡ true → ⊥) → ⊥
two true true c h p q r = p refl refl
two true false true h p q r = q refl refl
two true false false h p q r = false≢true h
two false true true h p q r = r refl refl
two false true false h p q r = false≢true h
two false false c h p q r = false≢true h

module _ (l : List ℕ) where
  not_shared : apart l ≡ true → (block : ℕ) → block < 4096 → shared l block ≡ false
  unfolding apart
  not_shared h block small = some-none (shared l) 0 4096 block (not-true _ h) (omega arith) (omega arith)

  one-mode : apart l ≡ true → (m n block : ℕ) → reaches l m block ≡ true → reaches l n block ≡ true → m ≡ n
  unfolding shared
  one-mode h m n block p q =
      let u = reached l m block p in
      let v = reached l n block q in
      let t = no_two (reaches l 0 block) (reaches l 1 block) (reaches l 3 block) (not_shared h block (rw (← u.2.lies) (omega arith))) in
      by_mode (λ (m : ℕ). reaches l m block ≡ true → m ≡ n)
      (λ a. by_mode (λ (n : ℕ). reaches l n block ≡ true → 0 ≡ n) (λ b. refl) (λ b. absurd (t.0 a b)) (λ b. absurd (t.1 a b)) n v.2.legal q)
      (λ a. by_mode (λ (n : ℕ). reaches l n block ≡ true → 1 ≡ n) (λ b. absurd (t.0 b a)) (λ b. refl) (λ b. absurd (t.2 a b)) n v.2.legal q)
      (λ a. by_mode (λ (n : ℕ). reaches l n block ≡ true → 3 ≡ n) (λ b. absurd (t.1 b a)) (λ b. absurd (t.2 b a)) (λ b. refl) n v.2.legal q)
      m u.2.legal p

  all_apart : ((m n block : ℕ) → reaches l m block ≡ true → reaches l n block ≡ true → m ≡ n) → apart l ≡ true
  unfolding apart shared
  all_apart h = at (some (shared l) 0 4096) refl
    where
      at : (x : Bool) → some (shared l) 0 4096 ≡ x → not (some (shared l) 0 4096) ≡ true
      at true e =
          let s = some-found (shared l) 0 4096 e in
          absurd (two (reaches l 0 s.0) (reaches l 1 s.0) (reaches l 3 s.0) s.3
          (λ a b. omega (arith, h 0 1 s.0 a b)) (λ a b. omega (arith, h 0 3 s.0 a b)) (λ a b. omega (arith, h 1 3 s.0 a b)))
      at false e = rw e

pub apart_is : ApartIs
apart_is l = (one-mode l, all_apart l)
