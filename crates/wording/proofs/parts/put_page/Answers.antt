-- `put_page` meets its contract: mode, set and number one after the other.
use borrow.Author.Rules.{rules}
use Rattle.wording.proofs.Chain.{then}
use Rattle.wording.proofs.parts.put_page.Goals as goal

pub returns : goal.returns
returns c =
    ((then (then c.put_mode-a.ensures.0 c.put_set-b.ensures.0) c.put.ensures), search rules)
