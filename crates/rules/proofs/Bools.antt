-- Small facts about bools, choices and the numbers of flags and places that the proofs share.
use mathlib.Core.Path.{◌≡◌, refl}
use mathlib.Core.Bool.{Bool, true, false, cond, ◌&&◌, ◌||◌, false≢true, true≢false}
use mathlib.Core.List.{List}
use Prim.Native.Nat.{ℕ, ◌≤◌, ◌<◌}
use native.Mathlib.Omega.{arith}
use lib.Dec.{eqb}
use lib.ListN.{get_or, length}
use Rattle.rules.specs.Words.{word, SR3, bit}
use Rattle.rules.specs.References.{uses_d, page_for}
use Rattle.rules.specs.declared.Reference.{Reference}

pub and_l : (a b : Bool) → (a && b) ≡ true → a ≡ true
and_l true b h = refl
and_l false b h = h

pub and_r : (a b : Bool) → (a && b) ≡ true → b ≡ true
and_r true b h = h
and_r false b h = absurd (false≢true h)

pub or_l : (a b : Bool) → (a || b) ≡ false → a ≡ false
or_l true b h = h
or_l false b h = refl

pub or_r : (a b : Bool) → (a || b) ≡ false → b ≡ false
or_r true b h = absurd (true≢false h)
or_r false b h = h

-- a projection goes through a choice
pub cond-first : {A B : Type 0} (b : Bool) (x y : A × B) → (cond b x y).0 ≡ cond b x.0 y.0
cond-first true x y = refl
cond-first false x y = refl

pub cond-last : {A B : Type 0} (b : Bool) (x y : A × B) → (cond b x y).1 ≡ cond b x.1 y.1
cond-last true x y = refl
cond-last false x y = refl

pub cond-get_or : (b : Bool) (k l : List ℕ) (i : ℕ) → get_or (cond b k l) i 0 ≡ cond b (get_or k i 0) (get_or l i 0)
cond-get_or true k l i = refl
cond-get_or false k l i = refl

pub cond-length : (b : Bool) (k l : List ℕ) → length (cond b k l) ≡ cond b (length k) (length l)
cond-length true k l = refl
cond-length false k l = refl

pub cond_same : {A : Type 0} (b : Bool) (x : A) → cond b x x ≡ x
cond_same true x = refl
cond_same false x = refl

pub bit-small : (b : Bool) → bit b ≤ 1
bit-small true = omega arith
bit-small false = omega arith

-- rule 3 finds one of the 48 pages
pub first_small : (x y : Bool) → cond x 0 (cond y 16 32) ≤ 32
first_small true y = omega arith
first_small false true = omega arith
first_small false false = omega arith

pub page-small : (l : List ℕ) (r : Reference) → page_for l r < 48
page-small l r =
    omega (arith, first_small (eqb r.mode 0) (eqb r.mode 1), bit-small (uses_d (word l SR3) r.mode r.space))
