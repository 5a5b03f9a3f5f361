-- A line lies within the text and its record within the output. Each turn leaves less text, or the same text and an empty
-- output: a full output is not empty, since a line's record has room in seven bytes.
use Rattle.std.proofs.Common.{◌≡◌, ◌+◌, ◌-◌, ◌*◌, ◌≤◌, length}
use Rattle.record.proofs.Waiting.{waiting}
use Rattle.record.proofs.Run.lines.Given as goal

abbrev pub invariant-loop-end : goal.invariant-loop-end
invariant-loop-end g l = record {
  same : length l.out ≡ length l.fn.out;
  order : l.at ≤ l.end;
  within : l.at ≤ length l.text;
  used : l.self.used ≤ length l.fn.out;
}

abbrev pub decreases-loop-end : goal.decreases-loop-end
decreases-loop-end g l = 2 * (length l.text - l.at) + waiting l.self.used
