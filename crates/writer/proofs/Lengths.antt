-- A record has at most seven bytes.
use Prim.Native.Nat.{◌≤◌}
use native.Mathlib.Omega.{arith}
use lib.ListN.{length}
use Rattle.rules.specs.declared.Event.{Event}
use Rattle.rules.specs.declared.Event.TheVariants.{Refer, Read, Write, Instruction, Interrupt, Change, Init}
use Rattle.writer.specs.Bytes.{record_of}

pub at_most-seven : (e : Event) → length (record_of e) ≤ 7
unfolding record_of
at_most-seven (Refer r) = omega arith
at_most-seven (Read address) = omega arith
at_most-seven (Write address value) = omega arith
at_most-seven (Instruction va) = omega arith
at_most-seven (Interrupt vector) = omega arith
at_most-seven (Change register amount) = omega arith
at_most-seven Init = omega arith
