-- The line of an answer (01, "Recordings").
use Rattle.std.specs.Prelude.{ℕ, ◌+◌, ◌≤◌, cond, List, [], ◌∷◌, ◌++◌, length, take, drop, leb, None, Some}
use Rattle.std.specs.declared.option.Option.{Option}
use Rattle.rules.specs.Paper.{Paper, G, A, R, D, X}
use Rattle.rules.specs.Words.{bit}
use Rattle.lines.specs.Digits.{digit, octal, decimal}

abbrev pub Text : Type 0
Text = List ℕ

-- characters by their numbers: `G`, `A`, `R`, `D`, `X`, `T`, `-`, space, line feed
abbrev pub character : ℕ → Text
character c = c ∷ []

-- request E1: the page that served, its place in two decimal digits, or `--`
abbrev pub served_text : Option ℕ → Text
served_text (Some place) = decimal 2 place
served_text None = 45 ∷ 45 ∷ []

-- the parts of a line
abbrev pub parts : Paper → List Text
-- `G`, byte in six octal digits, `T` or `-`, the page that served
parts (G byte trap served) = character 71 ∷ octal 6 byte ∷ character (cond trap 84 45) ∷ served_text served ∷ []
-- `A` and three digits for non-resident, length, read-only
parts (A nonresident length readonly) =
    character 65 ∷ (digit (bit nonresident) ∷ digit (bit length) ∷ digit (bit readonly) ∷ []) ∷ []
-- `R` and six octal digits
parts (R word) = character 82 ∷ octal 6 word ∷ []
-- `D` for done
parts D = character 68 ∷ []
-- `X` and two decimal digits
parts (X number) = character 88 ∷ decimal 2 number ∷ []

-- one space between parts, ended by a line feed
abbrev pub joined : Text → List Text → Text
joined part [] = part ++ 10 ∷ []
joined part (next ∷ rest) = part ++ 32 ∷ joined next rest

abbrev pub line_of_parts : List Text → Text
line_of_parts [] = []
line_of_parts (part ∷ rest) = joined part rest

unfoldable pub line_of : Paper → Text
line_of p = line_of_parts (parts p)

-- the length of the longest line, a grant's
abbrev pub longest : ℕ
longest = 14

abbrev pub NoneLonger : Type 0
NoneLonger = (p : Paper) → length (line_of p) ≤ longest

-- a text at a place of the output, where it fits: how many bytes are written, and the output afterwards
unfoldable pub placed : List ℕ → ℕ → Text → Option ℕ × List ℕ
placed out at text =
    cond (leb (at + length text) (length out))
    (Some (length text), take at out ++ text ++ drop (at + length text) out)
    (None, out)
