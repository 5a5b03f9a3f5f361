-- What a word stands for in its field (docs/NOTATION.md, "Fields").
use Rattle.std.specs.Prelude.{ℕ, zero, suc, ◌+◌, ◌*◌, ◌-◌, Bool, cond, ◌&&◌, List, [], ◌∷◌, leb, eqb, ℤ, pos, negsuc, None, Some}
use Rattle.std.specs.declared.option.Option.{Option}
use Rattle.std.specs.Option.{option_map, option_or}
use Rattle.std.specs.Str.{bytes_eq}
use Rattle.lines.specs.Chars.{chars}
use Rattle.lines.specs.Lines.{Text}
use Rattle.notation.specs.declared.Field.{Field}
use Rattle.notation.specs.declared.Field.TheVariants.{Mode, Space, Access, Phase, Va, Value, Vector, Address, Register, Byte}

-- what stands beside a word in a list
abbrev pub looked_up : {A : Type 0} → Text → List (Text × A) → Option A
looked_up w [] = None
looked_up w (x ∷ xs) = cond (bytes_eq w x.0) (Some x.1) (looked_up w xs)

-- the words of a field, and the number that each stands for
abbrev pub words_of : Field → List (Text × ℕ)
words_of Mode = (chars "kernel", 0) ∷ (chars "supervisor", 1) ∷ (chars "illegal", 2) ∷ (chars "user", 3) ∷ []
words_of Space = (chars "instruction", 0) ∷ (chars "data", 1) ∷ []
words_of Access = (chars "read", 0) ∷ (chars "write", 1) ∷ []
words_of Phase = (chars "instruction", 0) ∷ (chars "trap", 1) ∷ []
words_of Va = []
words_of Value = []
words_of Vector = []
words_of Address = []
words_of Register = []
words_of Byte = []

-- the largest number of a field: what its bytes hold in a record
abbrev pub most_of : Field → ℕ
most_of Mode = 0o377
most_of Space = 0o377
most_of Access = 0o377
most_of Phase = 0o377
most_of Va = 0o177777
most_of Value = 0o177777
most_of Vector = 0o177777
most_of Address = 0o77777777
most_of Register = 0o377
most_of Byte = 0o377

-- `0` to `7`
abbrev pub octal_digit : ℕ → Bool
octal_digit c = leb 48 c && leb c 55

-- the digits of a word after those that make n
unfoldable pub octal_from : ℕ → Text → Option ℕ
octal_from n [] = Some n
octal_from n (c ∷ t) = cond (octal_digit c) (octal_from (8 * n + (c - 48)) t) None

-- a word of digits, one or more
abbrev pub octal_of : Text → Option ℕ
octal_of [] = None
octal_of (c ∷ t) = octal_from 0 (c ∷ t)

abbrev pub up_to : ℕ → Option ℕ → Option ℕ
up_to most (Some n) = cond (leb n most) (Some n) None
up_to most None = None

unfoldable pub octal_up_to : ℕ → Text → Option ℕ
octal_up_to most w = up_to most (octal_of w)

-- a word of the field, or a number that it can hold
unfoldable pub number_of : Field → Text → Option ℕ
number_of f w = option_or (looked_up w (words_of f)) (octal_up_to (most_of f) w)

-- -n
abbrev pub minus : ℕ → ℤ
minus zero = pos 0
minus (suc n) = negsuc n

-- `-`, `+` or no sign, and a number: -200 to 177
unfoldable pub amount_of : Text → Option ℤ
amount_of [] = None
amount_of (c ∷ t) =
    cond (eqb c 45) (option_map minus (octal_up_to 0o200 t))
    (cond (eqb c 43) (option_map pos (octal_up_to 0o177 t)) (option_map pos (octal_up_to 0o177 (c ∷ t))))
