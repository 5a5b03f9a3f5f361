-- What is put lies within the output.
use native.Mathlib.Omega.{arith}
use Rattle.recording.proofs.Taking.{put_within}
use Rattle.recording.proofs.stop.Goals as goal

pub overflow_add-result : goal.overflow_add-result
overflow_add-result c = omega (arith, put_within _ _ _ _ _ _ c.put.ensures c.in-Some.is)
