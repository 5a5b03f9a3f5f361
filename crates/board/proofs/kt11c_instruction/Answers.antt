-- `kt11c_instruction` may code its answer: every answer of the unit is small.
use Rattle.rules.specs.declared.Event.TheVariants.{Instruction}
use Rattle.board.proofs.Small.{small}
use Rattle.board.proofs.kt11c_instruction.Goals as goal

pub code-requires : goal.code-requires
code-requires c = small _ _ _ (Instruction _) c.instruction_start.ensures tt
