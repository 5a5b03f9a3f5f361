-- The words of a line (docs/NOTATION.md, "Lines"). A line is here a text without its line feed.
use Rattle.std.specs.Prelude.{ℕ, Bool, not, ◌||◌, length, drop, eqb}
use Rattle.std.specs.List.{prefix_len, take_while}
use Rattle.lines.specs.Lines.{Text}

-- space, tab, carriage return
abbrev pub blank : ℕ → Bool
blank c = eqb c 32 || eqb c 9 || eqb c 13

-- a character of a word: no blank and no `#`
abbrev pub in_word : ℕ → Bool
in_word c = not (blank c || eqb c 35)

-- a character of a line: no line feed
abbrev pub not_feed : ℕ → Bool
not_feed c = not (eqb c 10)

-- the characters before the first that fails a test, and that one with all after it
abbrev pub before : (ℕ → Bool) → Text → Text
before test t = take_while test t

abbrev pub after : (ℕ → Bool) → Text → Text
after test t = drop (prefix_len test t) t

-- the first word of a text, empty where it has none, and what follows it
unfoldable pub first_word : Text → Text
first_word t = before in_word (after blank t)

unfoldable pub after_word : Text → Text
after_word t = after in_word (after blank t)

abbrev pub empty : Text → Bool
empty t = eqb (length t) 0
