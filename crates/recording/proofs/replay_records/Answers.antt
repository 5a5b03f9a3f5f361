-- `replay_records` meets its contract: a record is taken and `Reached` holds at the next, or the stretch ends there as the definition's does.
use mathlib.Core.Path.{sym, ◌∙◌}
use mathlib.Core.List.{◌++◌}
use native.Mathlib.Omega.{arith}
use Rattle.pieces.proofs.SeenFrom.{seen-advances}
use Rattle.recording.specs.Parts.{ahead}
use Rattle.recording.proofs.Reached.{begin}
use Rattle.recording.proofs.Ahead.{ends, refused, takes, leaves}
use Rattle.recording.proofs.replay_records.Goals as goal

pub loop-event-init : goal.loop-event-init
loop-event-init c =
    let a = c.args in
    begin (ahead a.seen.beyond a.seen.last (a.seen.front.now ++ a.seen.back.now) 0 a.s.now) a.out.now

pub returns-in-Ok-None : goal.returns-in-Ok-None
returns-in-Ok-None c = ends _ _ _ _ _ _ _ _ _ c.loop-event.invariant (sym c.read.ensures ∙ (rw c.in-Ok-None.field-0-is at c.in-Ok-None.is))

pub stop-requires : goal.stop-requires
stop-requires c = c.loop-event.invariant.within

pub returns-in-Err : goal.returns-in-Err
returns-in-Err c = refused _ _ _ _ _ _ _ _ _ c.loop-event.invariant _ (sym c.read.ensures ∙ c.in-Err.is) _ _ c.stop.ensures

pub take_event-requires : goal.take_event-requires
take_event-requires c = c.loop-event.invariant.within

pub returns-in_default : goal.returns-in_default
returns-in_default c =
    leaves _ _ _ _ _ _ _ _ _ _ _ (sym c.read.ensures ∙ (rw c.in-Ok-Some.field-0-is at c.in-Ok-Some.is)) c.loop-event.invariant _ _ _ c.take_event.ensures c.in_default.is

pub overflow_add-written : goal.overflow_add-written
overflow_add-written c =
    let next = takes _ _ _ _ _ _ _ _ _ _ _ (sym c.read.ensures ∙ (rw c.in-Ok-Some.field-0-is at c.in-Ok-Some.is)) c.loop-event.invariant _ _ _ _ c.take_event.ensures c.in-Some.is in
    omega (arith, next.within, next.size)

pub loop-event-smaller : goal.loop-event-smaller
loop-event-smaller c = omega (arith, seen-advances _ _ _ _ _ _ (sym c.read.ensures ∙ (rw c.in-Ok-Some.field-0-is at c.in-Ok-Some.is)))

pub loop-event-preserved : goal.loop-event-preserved
loop-event-preserved c =
    takes _ _ _ _ _ _ _ _ _ _ _ (sym c.read.ensures ∙ (rw c.in-Ok-Some.field-0-is at c.in-Ok-Some.is)) c.loop-event.invariant _ _ _ _ c.take_event.ensures c.in-Some.is
