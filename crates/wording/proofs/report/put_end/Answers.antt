-- `put_end` meets its contract: each arm writes its line part by part.
use borrow.Author.Rules.{rules}
use Rattle.wording.proofs.Chain.{then}
use Rattle.wording.proofs.report.put_end.Goals as goal

pub returns-in-Ok : goal.returns-in-Ok
returns-in-Ok c = (
  rw c.in-Ok.is (then c.put-a.ensures
      (then c.put_offset-b.ensures c.put.ensures)),
  search rules,
)

pub returns-in-Err : goal.returns-in-Err
returns-in-Err c = (
  rw c.in-Err.is (then c.put-a-in-Err.ensures (then c.put_number-b.ensures
      (then c.put-c.ensures (then c.put_offset-d.ensures c.put-in-Err.ensures)))),
  search rules,
)
