-- `kt11c_init` may code its answer: every answer of the unit is small.
use Rattle.rules.specs.declared.Event.TheVariants.{Init}
use Rattle.board.proofs.Small.{small}
use Rattle.board.proofs.kt11c_init.Goals as goal

pub code-requires : goal.code-requires
code-requires c = small _ _ _ Init c.init.ensures tt
