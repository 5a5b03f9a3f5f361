-- The first number of a range that passes a test.
use Rattle.std.specs.Prelude.{ℕ, zero, suc, Bool, cond}

-- of i, i + 1, .., n of them; i + n where none passes
abbrev pub first_of : (ℕ → Bool) → ℕ → ℕ → ℕ
first_of f i zero = i
first_of f i (suc n) = cond (f i) i (first_of f (suc i) n)
