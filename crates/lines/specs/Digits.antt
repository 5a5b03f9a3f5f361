-- A number as text: so many digits to a base, the highest first.
use Rattle.std.specs.Prelude.{ℕ, zero, suc, ◌+◌, ◌/◌, ◌%◌, List, [], ◌∷◌}

-- the character of a digit; '0' is 48
abbrev pub digit : ℕ → ℕ
digit d = 48 + d

-- the last k digits of n, before what follows
abbrev pub digits : ℕ → ℕ → ℕ → List ℕ → List ℕ
digits base zero n after = after
digits base (suc k) n after = digits base k (n / base) (digit (n % base) ∷ after)

abbrev pub octal : ℕ → ℕ → List ℕ
octal k n = digits 8 k n []

abbrev pub decimal : ℕ → ℕ → List ℕ
decimal k n = digits 10 k n []
