-- What a word stands for is never above what its field holds.
use mathlib.Core.Path.{◌≡◌, refl}
use mathlib.Core.Bool.{Bool, true, false, cond}
use mathlib.Core.List.{List, [], ◌∷◌}
use Prim.Native.Nat.{ℕ, ◌≤◌}
use native.Mathlib.Omega.{arith}
use lib.Dec.{leb}
use borrow.Author.Tests.{leb-true}
use Rattle.std.specs.declared.option.Option.{Option}
use Rattle.std.proofs.Common.{None, Some, Result}
use Rattle.std.specs.Prelude.{IfSome, IfOk}
use Rattle.std.specs.Option.{option_or, ok_or}
use Rattle.std.specs.Str.{bytes_eq}
use Rattle.lines.specs.Lines.{Text}
use Rattle.notation.specs.Words.{first_word}
use Rattle.notation.specs.Fields.{looked_up, words_of, most_of, octal_of, up_to, octal_up_to, number_of}
use Rattle.notation.specs.Lines.{field_of}
use Rattle.notation.specs.declared.Field.{Field}
use Rattle.notation.specs.declared.Field.TheVariants.{Mode, Space, Access, Phase, Va, Value, Vector, Address, Register, Byte}
use Rattle.notation.specs.declared.Expected.{Expected}
use Rattle.notation.specs.declared.Expected.TheVariants.{Field as AField}

-- a number, where there is one, is at most so large
abbrev pub AtMost : ℕ → Option ℕ → Type 0
AtMost most x = IfSome x (λ n. n ≤ most)

up_to_by : (most n : ℕ) (b : Bool) → leb n most ≡ b → AtMost most (cond b (Some n) None)
up_to_by most n true h = leb-true n most h
up_to_by most n false h = tt

bounded : (most : ℕ) (x : Option ℕ) → AtMost most (up_to most x)
bounded most (Some n) = up_to_by most n (leb n most) refl
bounded most None = tt

pub octal-at_most : (most : ℕ) (w : Text) → AtMost most (octal_up_to most w)
unfolding octal_up_to
octal-at_most most w = bounded most (octal_of w)

-- each number in a list of words
abbrev Listed : ℕ → List (Text × ℕ) → Type 0
Listed most [] = Unit {0}
Listed most (x ∷ xs) = (x.1 ≤ most) × Listed most xs

either : (most : ℕ) (b : Bool) (n : ℕ) (x : Option ℕ) → n ≤ most → AtMost most x → AtMost most (cond b (Some n) x)
either most true n x h k = h
either most false n x h k = k

listed : (most : ℕ) (w : Text) (xs : List (Text × ℕ)) → Listed most xs → AtMost most (looked_up w xs)
listed most w [] h = tt
listed most w (x ∷ xs) h = either most (bytes_eq w x.0) x.1 (looked_up w xs) h.0 (listed most w xs h.1)

few : (f : Field) → Listed (most_of f) (words_of f)
few Mode = (omega arith, (omega arith, (omega arith, (omega arith, tt))))
few Space = (omega arith, (omega arith, tt))
few Access = (omega arith, (omega arith, tt))
few Phase = (omega arith, (omega arith, tt))
few Va = tt
few Value = tt
few Vector = tt
few Address = tt
few Register = tt
few Byte = tt

or_else : (most : ℕ) (x y : Option ℕ) → AtMost most x → AtMost most y → AtMost most (option_or x y)
or_else most (Some n) y h k = h
or_else most None y h k = k

pub number-at_most : (f : Field) (w : Text) → AtMost (most_of f) (number_of f w)
unfolding number_of
number-at_most f w = or_else (most_of f) _ _ (listed (most_of f) w (words_of f) (few f)) (octal-at_most (most_of f) w)

given : (most : ℕ) (e : Expected) (x : Option ℕ) → AtMost most x → IfOk (ok_or x e) (λ n. n ≤ most)
given most e (Some n) h = h
given most e None h = tt

pub field_within : (f : Field) (t : Text) (r : Result ℕ Expected) → r ≡ field_of f t → IfOk r (λ n. n ≤ most_of f)
unfolding field_of
field_within f t r e = rw e (given (most_of f) (AField f) (number_of f (first_word t)) (number-at_most f (first_word t)))
