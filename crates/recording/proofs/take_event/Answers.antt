-- Where the line is not put the store kept aside is given back.
use Rattle.recording.proofs.Taking.{not_put, was_put}
use Rattle.recording.proofs.take_event.Goals as goal

pub returns-then-is_none : goal.returns-then-is_none
returns-then-is_none c = not_put _ _ _ _ c.requires _ _ c.put_event-put.ensures.1 c.if-is_none.ensures _ _ c.keep.ensures

pub returns-else-is_none : goal.returns-else-is_none
returns-else-is_none c = was_put _ _ _ _ c.requires _ _ c.put_event-put.ensures.1 c.if-is_none.ensures _ c.put_event-put.ensures.0
