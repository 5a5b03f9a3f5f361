-- Words under a mask: `and` is associative and goes over `or`, digit by digit; so what two words have in common under a mask
-- they keep under further `and` and `or`, and they have each field in common that the mask keeps whole.
use mathlib.Core.Path.{◌≡◌, refl, sym, ◌∙◌, ap}
use Prim.Native.Nat.{ℕ, zero, suc, ◌-◌, ◌/◌, ◌%◌, ◌^◌, ◌<◌, min, max}
use native.Mathlib.Nat.{pow-suc, mod-mod}
use native.Mathlib.Omega.{arith}
use lib.Bits.{bit_and, bit_or, and_step, or_step, and_shr, or_shr, and_mod, or_mod, and_mask, and_comm, and_zero_r, or_zero_r}

-- a law of a digit holds if it does of 0 and of 1
digit : (P : ℕ → Type 0) → P 0 → P 1 → (u : ℕ) → u < 2 → P u
digit P p q zero h = p
digit P p q (suc zero) h = q
digit P p q (suc (suc u)) h = absurd (omega arith)

digits : (P : ℕ → ℕ → ℕ → Type 0) → P 0 0 0 → P 0 0 1 → P 0 1 0 → P 0 1 1 → P 1 0 0 → P 1 0 1 → P 1 1 0 → P 1 1 1
    → (u v w : ℕ) → u < 2 → v < 2 → w < 2 → P u v w
digits P a b c d e f g h u v w p q r =
    digit (λ u. P u v w)
    (digit (λ v. P 0 v w) (digit (P 0 0) a b w r) (digit (P 0 1) c d w r) v q)
    (digit (λ v. P 1 v w) (digit (P 1 0) e f w r) (digit (P 1 1) g h w r) v q)
    u p

over-digit : (u v w : ℕ) → u < 2 → v < 2 → w < 2 → min (bit_or u v) w ≡ max (bit_and u w) (bit_and v w)
over-digit = digits (λ u v w. min (bit_or u v) w ≡ max (bit_and u w) (bit_and v w)) refl refl refl refl refl refl refl refl

assoc_digit : (u v w : ℕ) → u < 2 → v < 2 → w < 2 → min (bit_and u v) w ≡ min u (bit_and v w)
assoc_digit = digits (λ u v w. min (bit_and u v) w ≡ min u (bit_and v w)) refl refl refl refl refl refl refl refl

half_below : (k m : ℕ) → m < 2 ^ suc k → m / 2 < 2 ^ k
half_below k m h = omega (arith, pow-suc 2 k)

-- a digit less at a time, until the mask is 0
over-to : (k a b m : ℕ) → m < 2 ^ k → bit_and (bit_or a b) m ≡ bit_or (bit_and a m) (bit_and b m)
over-to zero a b m h = let z : m ≡ 0 = omega arith in rw z (simp (and_zero_r, or_zero_r))
over-to (suc k) a b m h =
    rw (
      and_step (bit_or a b) m,
      or_step (bit_and a m) (bit_and b m),
      or_shr a b 1,
      or_mod a b 1,
      and_shr a m 1,
      and_shr b m 1,
      and_mod a m 1,
      and_mod b m 1,
      over-to k (a / 2) (b / 2) (m / 2) (half_below k m h),
      over-digit (a % 2) (b % 2) (m % 2) (omega arith) (omega arith) (omega arith),
    )

assoc_to : (k a b m : ℕ) → m < 2 ^ k → bit_and (bit_and a b) m ≡ bit_and a (bit_and b m)
assoc_to zero a b m h = let z : m ≡ 0 = omega arith in rw z (simp and_zero_r)
assoc_to (suc k) a b m h =
    rw (
      and_step (bit_and a b) m,
      and_step a (bit_and b m),
      and_shr a b 1,
      and_mod a b 1,
      and_shr b m 1,
      and_mod b m 1,
      assoc_to k (a / 2) (b / 2) (m / 2) (half_below k m h),
      assoc_digit (a % 2) (b % 2) (m % 2) (omega arith) (omega arith) (omega arith),
    )

-- a word under one mask and then another
pub twice : (a b m : ℕ) → m < 2 ^ 16 → bit_and (bit_and a b) m ≡ bit_and a (bit_and b m)
twice a b m h = assoc_to 16 a b m h

-- what two words have in common under a mask of the unit's width
abbrev pub Same : ℕ → ℕ → ℕ → Type 0
Same m x y = bit_and x m ≡ bit_and y m

module _ (m x y : ℕ) (width : m < 2 ^ 16) (h : Same m x y) where
  pub same_or : (z : ℕ) → Same m (bit_or x z) (bit_or y z)
  same_or z = over-to 16 x z m width ∙ ap (λ (n : ℕ). bit_or n (bit_and z m)) h ∙ sym (over-to 16 y z m width)

  pub same_and : (z : ℕ) → Same m (bit_and x z) (bit_and y z)
  same_and z =
      ap (λ (n : ℕ). bit_and n m) (and_comm x z) ∙ assoc_to 16 z x m width ∙ ap (bit_and z) h
      ∙ sym (assoc_to 16 z y m width) ∙ ap (λ (n : ℕ). bit_and n m) (and_comm z y)

-- a field that the mask keeps whole
kept : (j k m x : ℕ) → m / 2 ^ j % 2 ^ k ≡ 2 ^ k - 1 → bit_and x m / 2 ^ j % 2 ^ k ≡ x / 2 ^ j % 2 ^ k
kept j k m x e = rw (and_shr, and_mod, e, and_mask, mod-mod)

pub same-field : (j k m x y : ℕ) → m / 2 ^ j % 2 ^ k ≡ 2 ^ k - 1 → Same m x y → x / 2 ^ j % 2 ^ k ≡ y / 2 ^ j % 2 ^ k
same-field j k m x y e h = sym (kept j k m x e) ∙ ap (λ (n : ℕ). n / 2 ^ j % 2 ^ k) h ∙ kept j k m y e

kept_low : (k m x : ℕ) → m % 2 ^ k ≡ 2 ^ k - 1 → bit_and x m % 2 ^ k ≡ x % 2 ^ k
kept_low k m x e = rw (and_mod, e, and_mask, mod-mod)

pub same_low : (k m x y : ℕ) → m % 2 ^ k ≡ 2 ^ k - 1 → Same m x y → x % 2 ^ k ≡ y % 2 ^ k
same_low k m x y e h = sym (kept_low k m x e) ∙ ap (λ (n : ℕ). n % 2 ^ k) h ∙ kept_low k m y e
