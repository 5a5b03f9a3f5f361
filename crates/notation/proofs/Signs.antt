-- An amount by its first character: its sign, or its first digit.
use mathlib.Core.Path.{◌≡◌, refl, ap}
use mathlib.Core.List.{[], ◌∷◌}
use Prim.Native.Nat.{ℕ, zero, suc, ◌≤◌}
use native.Mathlib.Omega.{arith}
use lib.ListN.{length}
use lib.Signed.{◌≤ℤ◌}
use lib.IntN.{ℤ, pos, negsuc, ◌-ℤ◌}
use mir.Syntax.{w32}
use mir.Val.{SFits, to_z, of_z}
use mir.ValLaws.{to_z-of_z}
use borrow.Author.Tests.{ne_eqb, lt-ltb}
use Rattle.std.proofs.Common.{None, Some}
use Rattle.std.specs.declared.option.Option.{Option}
use Rattle.std.specs.Option.{option_map}
use Rattle.std.proofs.lemmas.Int.{ints}
use Rattle.lines.specs.Lines.{Text}
use Rattle.notation.specs.Fields.{octal_up_to, minus, amount_of}

pub no_amount : (w : Text) → length w ≡ 0 → None ≡ amount_of w
unfolding amount_of
no_amount [] e = refl
no_amount (c ∷ t) e = absurd (omega arith)

pub plus_sign : (c : ℕ) (digits : Text) → c ≡ 43 → amount_of (c ∷ digits) ≡ option_map pos (octal_up_to 0o177 digits)
unfolding amount_of
plus_sign c digits e = rw e

pub no_sign : (c : ℕ) (digits : Text) → (c ≡ 45 → ⊥) → (c ≡ 43 → ⊥) → amount_of (c ∷ digits) ≡ option_map pos (octal_up_to 0o177 (c ∷ digits))
unfolding amount_of
no_sign c digits m p = rw (ne_eqb c 45 m, ne_eqb c 43 p)

negated : (n : ℕ) → pos 0 -ℤ pos n ≡ minus n
negated zero = refl
negated (suc n) = rw (lt-ltb 0 (suc n) (omega arith)) (ap negsuc (omega arith))

pub minus_sign : (c : ℕ) (digits : Text) → c ≡ 45 → amount_of (c ∷ digits) ≡ option_map (λ z. pos 0 -ℤ z) (option_map pos (octal_up_to 0o200 digits))
unfolding amount_of
minus_sign c digits e = rw e (by (octal_up_to 0o200 digits))
  where
    by : (x : Option ℕ) → option_map minus x ≡ option_map (λ z. pos 0 -ℤ z) (option_map pos x)
    by (Some n) = rw (negated n)
    by None = refl

fits-minus : (n : ℕ) → n ≤ 128 → SFits w32 (minus n)
fits-minus zero h = record { sfits = omega arith }
fits-minus (suc n) h = record { sfits = omega arith }

-- the negation of a small number, as the code computes it
pub small : (z : ℤ) → (pos 0 ≤ℤ z) × (z ≤ℤ pos 128) → to_z w32 (of_z w32 (pos 0 -ℤ to_z w32 (of_z w32 z))) ≡ pos 0 -ℤ z
small (pos n) h =
    let upper = h.1 in
    let k : n ≤ 128 = omega (arith, ints) in
    let fits : SFits w32 (pos n) = record { sfits = omega arith } in
    rw (to_z-of_z w32 (pos n) fits, negated n) (to_z-of_z w32 (minus n) (fits-minus n k))
small (negsuc n) h = let lower = h.0 in absurd (omega (arith, ints))
