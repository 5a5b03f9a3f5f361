-- `put_report` meets its contract: the lines one after the other.
use borrow.Author.Rules.{rules}
use Rattle.wording.proofs.Chain.{then}
use Rattle.wording.proofs.report.put_report.Goals as goal

pub returns-in-Ok : goal.returns-in-Ok
returns-in-Ok c = (
  rw c.in-Ok.is (then (then (then c.put_end-a.ensures.0 c.put_kept-b.ensures.0) c.put_broken-c.ensures.0) c.put_map.ensures.0),
  search rules,
)

pub returns-in-Err : goal.returns-in-Err
returns-in-Err c =
    (rw c.in-Err.is (then c.put-a.ensures (then c.put_number-b.ensures c.put.ensures)), search rules)
