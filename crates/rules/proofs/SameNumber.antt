-- A mode has the number that it was found by: number by number, by 01's tests.
use Rattle.std.proofs.Common.{arith}
use Rattle.rules.specs.Modes.{mode_of, SameNumber}
use Rattle.rules.specs.declared.modes.Mode.TheVariants.{Kernel, Supervisor, User}

pub same_number : SameNumber
unfolding mode_of
same_number n Kernel h = grind arith
same_number n Supervisor h = grind arith
same_number n User h = grind arith
