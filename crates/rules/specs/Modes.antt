-- The modes that have pages, and their numbers in 01. Mode 2 has none (rule 2).
use Rattle.std.specs.Prelude.{ℕ, ◌≡◌, cond, ltb, eqb, Result, Ok, Err, Some, None}
use Rattle.std.specs.declared.option.Option.{Option}
use Rattle.rules.specs.declared.modes.Mode.{Mode}
use Rattle.rules.specs.declared.modes.Mode.TheVariants.{Kernel, Supervisor, User}
use Rattle.rules.specs.declared.Refusal.{Refusal}
use Rattle.rules.specs.declared.Refusal.TheVariants.{Mode as BadMode}

abbrev pub mode_number : Mode → ℕ
mode_number Kernel = 0
mode_number Supervisor = 1
mode_number User = 3

-- the mode of a number; none for 2, refused by 2 beyond 3
unfoldable pub mode_of : ℕ → Result (Option Mode) Refusal
mode_of n =
    cond (ltb 3 n) (Err BadMode)
    (cond (eqb n 2) (Ok None)
    (Ok (Some (cond (eqb n 0) Kernel (cond (eqb n 1) Supervisor User)))))

-- a mode that was found has the number that it was found by
abbrev pub SameNumber : Type 0
SameNumber = (n : ℕ) (m : Mode) → mode_of n ≡ Ok (Some m) → mode_number m ≡ n
