-- The loop keeps to the stretch that the feed will show: `Reached` holds at each record, and the place moves on.
use mathlib.Core.List.{◌++◌}
use Prim.Native.Nat.{◌-◌}
use lib.ListN.{length}
use Rattle.recording.specs.Parts.{ahead}
use Rattle.recording.proofs.Reached.{Reached}
use Rattle.recording.proofs.replay_records.Given as goal

abbrev pub invariant-loop-event : goal.invariant-loop-event
invariant-loop-event l =
    Reached (ahead l.seen.beyond l.seen.last (l.seen.front.now ++ l.seen.back.now) 0 l.fn.s (length l.initial.out)) l.initial.out l.out l.written
    (ahead l.seen.beyond l.seen.last (l.seen.front.now ++ l.seen.back.now) l.at l.s (length l.out - l.written))

abbrev pub decreases-loop-event : goal.decreases-loop-event
decreases-loop-event l = length (l.seen.front.now ++ l.seen.back.now) - l.at
