-- The loop reads on to the end of the run: each feed brings it nearer, what lies ready and what is written stay within their buffers,
-- and what was written and what is left to tell make the transcript of all the bytes.
use Rattle.std.proofs.Common.{length, ◌≡◌, ◌<◌, ◌≤◌}
use Rattle.pieces.proofs.Landing.{Sound, to_go}
use Rattle.stream.specs.Ready.{part}
use Rattle.replay.proofs.Standing.{Stands}
use Rattle.replay.proofs.replay.Given as goal

abbrev pub invariant-loop-begun : goal.invariant-loop-begun
invariant-loop-begun g l = record {
  same : length l.piece ≡ length l.fn.piece;
  sound : Sound l.begun;
  within : l.to ≤ length l.piece;
  stands : 0 < length l.fn.piece → Stands (g.R.Read.remaining l.fn.input) (g.R.Read.remaining l.input) (g.W.Write.contents l.fn.output) (g.W.Write.contents l.output) (part l.from l.to l.piece) l.begun l.fn.registers l.registers;
}

abbrev pub decreases-loop-begun : goal.decreases-loop-begun
decreases-loop-begun g l = to_go l.begun
