-- A number digit by digit: what is left of a word goes on from the number so far, and no digit makes a number smaller.
use mathlib.Core.Path.{◌≡◌, refl, sym, ◌∙◌}
use mathlib.Core.Bool.{Bool, true, false, cond, and-false}
use mathlib.Core.List.{[], ◌∷◌}
use Prim.Native.Nat.{ℕ, ◌+◌, ◌*◌, ◌-◌, ◌<◌, ◌≤◌}
use native.Mathlib.Numerals.{add-one}
use native.Mathlib.Omega.{arith}
use lib.ListN.{length, drop, get_or, drop_of_length-le}
use lib.Seq.{drop-cons}
use lib.Dec.{leb}
use borrow.Author.Tests.{le-leb, lt-leb, leb-true}
use Rattle.lines.specs.Lines.{Text}
use Rattle.notation.specs.Fields.{octal_digit, octal_from, octal_of, up_to, octal_up_to}
use Rattle.std.specs.declared.option.Option.{Option}
use Rattle.std.proofs.Common.{None, Some}

pub below-digits : (c : ℕ) → c < 48 → octal_digit c ≡ false
below-digits c h = rw (lt-leb 48 c h)

pub above-digits : (c : ℕ) → 55 < c → octal_digit c ≡ false
above-digits c h = rw (lt-leb c 55 h, and-false (leb 48 c))

digit : (c : ℕ) → 48 ≤ c → c ≤ 55 → octal_digit c ≡ true
digit c l u = rw (le-leb 48 c l, le-leb c 55 u)

too_large : (most n : ℕ) (t : Text) → most < n → up_to most (octal_from n t) ≡ None
unfolding octal_from
too_large most n [] h = rw (lt-leb n most h)
too_large most n (c ∷ t) h = of (octal_digit c) (too_large most (8 * n + (c - 48)) t (omega arith))
  where
    of : (b : Bool) → up_to most (octal_from (8 * n + (c - 48)) t) ≡ None → up_to most (cond b (octal_from (8 * n + (c - 48)) t) None) ≡ None
    of true e = e
    of false e = refl

module _ (most : ℕ) where
  pub no_digits : (w : Text) → length w ≡ 0 → None ≡ octal_up_to most w
  unfolding octal_up_to
  no_digits [] e = refl
  no_digits (c ∷ t) e = absurd (omega arith)

  pub begins : (w : Text) → (length w ≡ 0 → ⊥) → octal_up_to most w ≡ up_to most (octal_from 0 w)
  unfolding octal_up_to
  begins [] h = absurd (h refl)
  begins (c ∷ t) h = refl

  module _ (w : Text) (n i : ℕ) (left : octal_up_to most w ≡ up_to most (octal_from n (drop i w))) where
    pub one_more : i < length w → 48 ≤ get_or w i 0 → get_or w i 0 ≤ 55
        → octal_up_to most w ≡ up_to most (octal_from (8 * n + (get_or w i 0 - 48)) (drop (i + 1) w))
    unfolding octal_from
    one_more h l u = rw (left, add-one, drop-cons w i 0 h, digit (get_or w i 0) l u)

    pub no_digit : i < length w → octal_digit (get_or w i 0) ≡ false → None ≡ octal_up_to most w
    unfolding octal_from
    no_digit h e = rw (left, drop-cons w i 0 h, e)

    pub exceeds : i < length w → 48 ≤ get_or w i 0 → get_or w i 0 ≤ 55 → most < 8 * n + (get_or w i 0 - 48) → None ≡ octal_up_to most w
    exceeds h l u m = sym (one_more h l u ∙ too_large most _ _ m)

    pub complete : length w ≤ i → n ≤ most → Some n ≡ octal_up_to most w
    unfolding octal_from
    complete h m = rw (left, drop_of_length-le w h, le-leb n most m)

limit : (most n : ℕ) (x : Option ℕ) → up_to most x ≡ Some n → n ≤ most
limit most n None e = let z : ◌≡◌ {A = ℕ} 0 1 = cc in absurd (omega arith)
limit most n (Some m) e = of (leb m most) refl e
  where
    of : (b : Bool) → leb m most ≡ b → cond b (Some m) None ≡ Some n → n ≤ most
    of true h e = let k : m ≡ n = cc in omega (arith, leb-true m most h)
    of false h e = let z : ◌≡◌ {A = ℕ} 0 1 = cc in absurd (omega arith)

pub within : (most n : ℕ) (w : Text) (x : Option ℕ) → x ≡ octal_up_to most w → x ≡ Some n → n ≤ most
unfolding octal_up_to
within most n w x read is = limit most n (octal_of w) (sym read ∙ is)
