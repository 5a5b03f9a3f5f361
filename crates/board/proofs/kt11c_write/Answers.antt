-- `kt11c_write` may code its answer: every answer of the unit is small.
use Rattle.rules.specs.declared.Event.TheVariants.{Write}
use Rattle.board.proofs.Small.{small}
use Rattle.board.proofs.kt11c_write.Goals as goal

pub code-requires : goal.code-requires
code-requires c = small _ _ _ (Write _ _) c.write_register.ensures tt
