-- A reference whose numbers 01 accepts: its mode, none for 2; the rest as bools. And its numbers.
use Rattle.std.specs.Prelude.{ℕ, Bool, cond, ltb, eqb, Result, Ok, Err, Some, None}
use Rattle.std.specs.declared.option.Option.{Option}
use Rattle.rules.specs.Words.{bit}
use Rattle.rules.specs.Modes.{mode_number, mode_of}
use Rattle.rules.specs.declared.modes.Mode.{Mode}
use Rattle.rules.specs.declared.Reference.{Reference}
use Rattle.rules.specs.declared.Refusal.{Refusal}
use Rattle.rules.specs.declared.Refusal.TheVariants.{Space, Access, Phase}
use Rattle.references.specs.declared.Accepted.{Accepted}

abbrev pub number_of : Option Mode → ℕ
number_of (Some mode) = mode_number mode
number_of None = 2

abbrev pub numbers : Accepted → Reference
numbers a = record { mode = number_of a.mode; space = bit a.data_space; access = bit a.write; phase = bit a.phase; va = a.va }

-- 0 or 1, or refused
abbrev pub flag_of : ℕ → Refusal → Result Bool Refusal
flag_of n refusal = cond (ltb 1 n) (Err refusal) (Ok (eqb n 1))

-- in the order of 01's table
abbrev pub then : {A B : Type 0} → Result A Refusal → (A → Result B Refusal) → Result B Refusal
then (Ok x) f = f x
then (Err refusal) f = Err refusal

unfoldable pub accepted_of : Reference → Result Accepted Refusal
accepted_of r =
    then (mode_of r.mode) (λ mode.
    then (flag_of r.space Space) (λ data_space.
    then (flag_of r.access Access) (λ write.
    then (flag_of r.phase Phase) (λ phase.
    Ok (record { mode = mode; data_space = data_space; write = write; phase = phase; va = r.va })))))
