-- A test that some number of a range passes.
use Rattle.std.specs.Prelude.{ℕ, zero, suc, Bool, false, ◌||◌}

-- f i, or f (i + 1), .., n of them
abbrev pub some : (ℕ → Bool) → ℕ → ℕ → Bool
some f i zero = false
some f i (suc n) = f i || some f (suc i) n
