-- `put_meeting` meets its contract: the line part by part.
use native.Mathlib.Omega.{arith}
use Rattle.wording.proofs.Chain.{then}
use Rattle.wording.proofs.report.put_meeting.Goals as goal

pub returns : goal.returns
returns c = (
  (then (then (then (then (then (then c.put-a.ensures c.put_block-b.ensures) c.put-c.ensures)
      c.put_page-d.ensures.0) c.put-e.ensures) c.put_page-f.ensures.0) c.put.ensures),
  omega (
    arith,
    c.put-a.ensures.next,
    c.put_block-b.ensures.next,
    c.put-c.ensures.next,
    c.put_page-d.ensures.1,
    c.put-e.ensures.next,
    c.put_page-f.ensures.1,
    c.put.ensures.next,
  ),
)
