-- `kt11c_change` may code its answer: every answer of the unit is small.
use Rattle.rules.specs.declared.Event.TheVariants.{Change}
use Rattle.board.proofs.Small.{small}
use Rattle.board.proofs.kt11c_change.Goals as goal

pub code-requires : goal.code-requires
code-requires c = small _ _ _ (Change _ _) c.note_change.ensures tt
