-- The register at an address, none where there is none; and the parts of the I/O page that the code goes by. That they lead where document 01's list
-- leads is shown in proofs/.
use Rattle.std.specs.Prelude.{cond, ℕ, ◌+◌, ◌*◌, ◌-◌, ◌/◌, ◌%◌, eqb, Some, None}
use Rattle.std.specs.declared.option.Option.{Option}
use Rattle.rules.specs.Addresses.{register_at, is_register}
use Rattle.rules.specs.References.{first_page}
use Rattle.rules.specs.Modes.{mode_number}
use Rattle.rules.specs.declared.modes.Mode.{Mode}
use Rattle.rules.specs.declared.modes.Mode.TheVariants.{Kernel, Supervisor, User}

-- the place of the register at an address
unfoldable pub place_at : ℕ → Option ℕ
place_at address = cond (is_register address) (Some (register_at address)) None

-- the mode whose registers fill these 64 bytes
unfoldable pub mode_at : ℕ → Option Mode
mode_at part = cond (eqb part 0o7723) (Some Kernel) (cond (eqb part 0o7722) (Some Supervisor) (cond (eqb part 0o7776) (Some User) None))

-- SR0 to SR3, by their own addresses
unfoldable pub status_at : ℕ → Option ℕ
status_at a =
    cond (eqb a 0o777572) (Some 96) (cond (eqb a 0o777574) (Some 97) (cond (eqb a 0o777576) (Some 98) (cond (eqb a 0o772516) (Some 99) None)))

-- in a mode's 64 bytes 16 PDRs, and then 16 PARs
abbrev pub page_at : ℕ → ℕ → ℕ
page_at first a = first + a / 2 % 16 + 48 * (1 - a / 32 % 2)

abbrev pub in_part : ℕ → Option Mode → Option ℕ
in_part a None = status_at a
in_part a (Some mode) = Some (page_at (first_page (mode_number mode)) a)

unfoldable pub by_part : ℕ → Option ℕ
by_part a = cond (eqb (a % 2) 1) None (in_part a (mode_at (a / 64)))
