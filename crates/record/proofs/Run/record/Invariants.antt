-- Each turn leaves the text and the output as long as they were.
use Rattle.std.proofs.Common.{◌≡◌, ◌<◌, ◌≤◌, length}
use Rattle.record.proofs.Run.record.Given as goal

abbrev pub invariant-loop : goal.invariant-loop
invariant-loop g l = record {
  text_same : length l.text ≡ length l.fn.text;
  out_same : length l.out ≡ length l.fn.out;
  have : l.have < length l.fn.text;
  used : l.self.used ≤ length l.fn.out;
}
