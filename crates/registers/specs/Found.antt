-- Where an address leads: a place, or the lowest of 6, 7 and 8.
use Rattle.std.specs.Prelude.{ℕ, cond, ltb, Result, Ok, Err}
use Rattle.rules.specs.Addresses.{register_at, is_register}
use Rattle.rules.specs.Refusals.{odd}
use Rattle.rules.specs.declared.Refusal.{Refusal}
use Rattle.rules.specs.declared.Refusal.TheVariants.{High, Odd, NoRegister}

unfoldable pub found_of : ℕ → Result ℕ Refusal
found_of address =
    cond (ltb 0o777777 address) (Err High)
    (cond (odd address) (Err Odd)
    (cond (is_register address) (Ok (register_at address)) (Err NoRegister)))
