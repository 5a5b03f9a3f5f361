-- The loop keeps to the trail: with what is carried at a record, the trail from there is the whole trail.
use mathlib.Core.Path.{◌≡◌}
use mathlib.Core.List.{◌++◌}
use Prim.Native.Nat.{◌-◌, ◌≤◌}
use lib.ListN.{length}
use Rattle.pieces.specs.Limit.{seen_from}
use Rattle.account.specs.Surveys.{trail}
use Rattle.account.proofs.survey_records.Given as goal

abbrev pub invariant-loop-event : goal.invariant-loop-event
invariant-loop-event l =
    let bytes = l.seen.front.now ++ l.seen.back.now in
    record {
      inside : l.at ≤ length bytes;
      left : trail l.base (seen_from l.seen.beyond l.seen.last bytes l.at) l.at l.tally l.s ≡ trail l.base (seen_from l.seen.beyond l.seen.last bytes 0) 0 l.fn.so_far l.fn.s;
    }

abbrev pub decreases-loop-event : goal.decreases-loop-event
decreases-loop-event l = length (l.seen.front.now ++ l.seen.back.now) - l.at
