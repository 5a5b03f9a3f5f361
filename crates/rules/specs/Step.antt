-- One event: the answer, and the whole store afterwards. Every promise and every demand is put in terms of `step`.
use Rattle.std.specs.Prelude.{ℕ, cond, List, eqb}
use Rattle.rules.specs.Paper.{Paper, R, D, X}
use Rattle.rules.specs.Addresses.{register_at}
use Rattle.rules.specs.References.{referred}
use Rattle.rules.specs.Registers.{read_at, written_at}
use Rattle.rules.specs.Others.{started, change_byte, noted, cleared}
use Rattle.rules.specs.Refusals.{refusal_of}
use Rattle.rules.specs.declared.Event.{Event}
use Rattle.rules.specs.declared.Event.TheVariants.{Refer, Read, Write, Instruction, Interrupt, Change, Init}

-- an event that is not refused
unfoldable pub accepted : List ℕ → Event → Paper × List ℕ
accepted l (Refer r) = referred l r
accepted l (Read address) = (R (read_at l (register_at address)), l)
accepted l (Write address value) = (D, written_at l (register_at address) value)
accepted l (Instruction va) = (D, started l va)
accepted l (Interrupt vector) = (D, started l vector)
accepted l (Change register amount) = (D, noted l (change_byte register amount))
accepted l Init = (D, cleared l)

-- any event: refused by its lowest number, and the store keeps every bit; or accepted
unfoldable pub step : List ℕ → Event → Paper × List ℕ
step l e = cond (eqb (refusal_of l e) 0) (accepted l e) (X (refusal_of l e), l)
