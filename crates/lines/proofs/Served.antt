-- The page that served takes two characters: the digits of its place, or two dashes.
use mathlib.Core.Path.{◌≡◌, refl}
use Rattle.std.specs.declared.option.Option.{Option}
use Rattle.std.proofs.Common.{None, Some}
use mathlib.Core.List.{[], ◌∷◌}
use Prim.Native.Nat.{ℕ, ◌/◌, ◌%◌}
use Rattle.lines.specs.Digits.{digit}
use Rattle.lines.specs.Lines.{served_text}

abbrev first : Option ℕ → ℕ
first (Some place) = digit (place / 10 % 10)
first None = 45

abbrev second : Option ℕ → ℕ
second (Some place) = digit (place % 10)
second None = 45

pub two_characters : (served : Option ℕ) → served_text served ≡ first served ∷ second served ∷ []
two_characters (Some place) = refl
two_characters None = refl
