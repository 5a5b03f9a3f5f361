-- `put_kept` meets its contract: each arm writes its line part by part.
use borrow.Author.Rules.{rules}
use Rattle.wording.proofs.Chain.{then}
use Rattle.wording.proofs.report.put_kept.Goals as goal

pub returns-in-Some : goal.returns-in-Some
returns-in-Some c =
    (rw c.in-Some.is (then c.put-a.ensures (then c.put_offset-b.ensures c.put.ensures)), search rules)

pub returns-in-None : goal.returns-in-None
returns-in-None c = (rw c.in-None.is c.put-in-None.ensures, search rules)
