-- Before the first piece the run is not over; each piece brings its end nearer.
use Rattle.std.proofs.Common.{refl, ◌∙◌, arith}
use Rattle.pieces.proofs.Landing.{sound-fresh}
use Rattle.stream.proofs.Came.{came, readied, brings}
use Rattle.stream.proofs.Offered.{offered}
use Rattle.account.proofs.Promise.{sound, nearer}
use Rattle.audit.proofs.Standing.{none_waits, start, step, finish, told}
use Rattle.audit.proofs.audit.Goals as goal

pub loop-ready-init : goal.loop-ready-init
loop-ready-init g c =
    record {
      same = refl;
      sound = rw c.begin-survey.ensures sound-fresh;
      going = rw c.begin-survey.ensures refl;
      kept = refl;
      stands = rw c.begin-survey.ensures (start _ c.args.registers.now);
    }

pub loop-ready-smaller : goal.loop-ready-smaller
loop-ready-smaller g c =
    let i = c.in_ok-ready.ready in
    let at = came _ c.more.result i c.in_ok-ready.ensures.cases in
    let r = readied c.more.result c.more.new.buffer i at c.more.ensures.ready in
    nearer _ _ _ _ _ c.feed-survey.ensures c.loop-ready.invariant.sound c.loop-ready.invariant.going (offered i c.more.new.buffer r)

pub loop-ready-preserved : goal.loop-ready-preserved
loop-ready-preserved g c =
    let i = c.in_ok-ready.ready in
    let inv = c.loop-ready.invariant in
    let at = came _ c.more.result i c.in_ok-ready.ensures.cases in
    let b = rw (none_waits c.loop-ready.piece) at (brings _ _ 0 0 c.loop-ready.piece c.more.new.buffer c.more.result i at c.more.ensures.brought) in
    record {
      same = c.more.auto.buffer ∙ inv.same;
      sound = sound _ _ _ _ _ c.feed-survey.ensures inv.sound inv.going;
      going = c.if-begun.false;
      kept = inv.kept;
      stands = step _ _ _ _ _ c.feed-survey.ensures _ _ _ _ c.if-begun.false inv.stands b.0;
    }

pub returns-then-begun : goal.returns-then-begun
returns-then-begun g c = λ h.
    let i = c.in_ok-ready.ready in
    let inv = c.loop-ready.invariant in
    let at = came _ c.more.result i c.in_ok-ready.ensures.cases in
    let b = rw (none_waits c.loop-ready.piece) at (brings _ _ 0 0 c.loop-ready.piece c.more.new.buffer c.more.result i at c.more.ensures.brought) in
    let f = finish _ _ _ _ _ c.feed-survey.ensures _ _ _ _ c.if-begun.true inv.stands b.0 (λ z. b.1 z (omega (arith, h, c.more.auto.buffer, inv.same))) in
    told c.tell.result c.map_err-then-begun.result _ _ _ _ _ _ _ c.map_err-then-begun.ensures.variant inv.kept c.tell.ensures f
