-- `kt11c_interrupt` may code its answer: every answer of the unit is small.
use Rattle.rules.specs.declared.Event.TheVariants.{Interrupt}
use Rattle.board.proofs.Small.{small}
use Rattle.board.proofs.kt11c_interrupt.Goals as goal

pub code-requires : goal.code-requires
code-requires c = small _ _ _ (Interrupt _) c.interrupt_start.ensures tt
