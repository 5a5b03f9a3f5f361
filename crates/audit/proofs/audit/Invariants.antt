-- The loop reads on to the end of the run: each piece brings it nearer, what lies ready stays within its buffer, and what was read are
-- pieces of the recording, surveyed one after the other.
use Rattle.std.proofs.Common.{length, ◌≡◌, false}
use Rattle.pieces.proofs.Landing.{Sound, to_go}
use Rattle.audit.proofs.Standing.{Stands}
use Rattle.audit.proofs.audit.Given as goal

abbrev pub invariant-loop-ready : goal.invariant-loop-ready
invariant-loop-ready g l = record {
  same : length l.piece ≡ length l.fn.piece;
  sound : Sound l.survey.begun;
  going : l.survey.begun.over ≡ false;
  kept : g.W.Write.contents l.output ≡ g.W.Write.contents l.fn.output;
  stands : Stands (g.R.Read.remaining l.fn.input) (g.R.Read.remaining l.input) l.survey l.fn.registers l.registers;
}

abbrev pub decreases-loop-ready : goal.decreases-loop-ready
decreases-loop-ready g l = to_go l.survey.begun
