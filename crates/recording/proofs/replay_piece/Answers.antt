-- 1 is tested first.
use Rattle.recording.proofs.Pieces.{when_store}
use Rattle.recording.proofs.replay_piece.Goals as goal

pub returns-in_default : goal.returns-in_default
returns-in_default c = when_store _ _ _ _ _ c.in_default.ensures.cases _ _ c.stop.ensures
