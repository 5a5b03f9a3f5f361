-- The records of the piece, and where they leave it.
use Rattle.recording.proofs.Pieces.{when_going}
use Rattle.recording.proofs.feed.Goals as goal

pub returns : goal.returns
returns c =
    when_going _ _ _ _ _ c.if-begun.false _ _ _ c.replay_piece-step.ensures _ c.land-2.ensures
