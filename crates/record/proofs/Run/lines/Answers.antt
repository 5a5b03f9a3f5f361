-- A line's record lies within the output; a full output is not empty.
use Rattle.std.proofs.Common.{◌-◌, ◌*◌, length, ◌∙◌, arith}
use Rattle.script.proofs.Within.{within, almost_full}
use Rattle.record.proofs.Waiting.{falls}
use Rattle.record.proofs.Run.lines.Goals as goal

pub loop-end-preserved-in-Ok : goal.loop-end-preserved-in-Ok
loop-end-preserved-in-Ok g c =
    let inv = c.loop-end.invariant in
    let reach = within _ _ _ _ _ c.record_line.ensures _ c.in-Ok.is (rw inv.same inv.used) in
    record {
      same = c.record_line.auto.out ∙ inv.same;
      order = let e = c.line_end-end-in-Ok.ensures in omega (arith, e);
      within = omega (arith, c.loop-end-test.true);
      used = rw inv.same at reach;
    }

pub loop-end-smaller : goal.loop-end-smaller
loop-end-smaller g c =
    let inv = c.loop-end.invariant in
    let room = almost_full _ _ _ _ _ c.record_line.ensures (rw c.in-Err-Full.field-0-is at c.in-Err-Full.is) in
    falls (2 * (length c.args.text.now - c.loop-end.at)) c.loop-end.self.used c.flush.new.self.used c.flush.ensures
    (λ e. omega (arith, room, inv.same, c.requires.0))
