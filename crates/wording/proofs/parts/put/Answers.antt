-- `put` meets its contract: the text is copied into its place.
use native.Mathlib.Omega.{arith}
use Rattle.wording.proofs.Chain.{copied}
use Rattle.wording.proofs.parts.put.Goals as goal

pub returns : goal.returns
returns c = copied _ _ _ _ _ c.copy_from_slice.ensures.after (omega arith) (omega arith)
