-- `kt11c_reference` may code its answer: every answer of the unit is small.
use borrow.Author.Rules.{rules}
use Rattle.rules.specs.declared.Event.TheVariants.{Refer}
use Rattle.board.proofs.Small.{small}
use Rattle.board.proofs.kt11c_reference.Goals as goal

pub code-requires : goal.code-requires
code-requires c = small _ _ _ (Refer _) c.reference.ensures (search rules)
