-- `put_parting` meets its contract where the modes are apart.
use borrow.Author.Rules.{rules}
use Rattle.wording.proofs.report.put_parting.Goals as goal

pub returns-in-None : goal.returns-in-None
returns-in-None c = (rw c.in-None.is c.put.ensures, search rules)
