-- `survey_records` meets its contract: a record carries the trail on.
use mathlib.Core.Path.{sym, ap, ◌∙◌}
use mathlib.Core.List.{List}
use Prim.Native.Nat.{ℕ}
use Rattle.rules.specs.Paper.{Paper}
use Rattle.account.proofs.Trails.{trail_event, trail_advances}
use Rattle.account.proofs.survey_records.Goals as goal

pub loop-event-preserved : goal.loop-event-preserved
loop-event-preserved c =
    let seen = sym (rw c.in-Ok-Some.field-0-is at c.in-Ok-Some.ensures) in
    let stepped = ap (λ (q : Paper × List ℕ). q.1) c.apply.ensures in
    record {
      inside = (trail_advances _ _ _ _ _ _ seen).1;
      left =
          rw (c.count.ensures, c.widens-verdict.ensures, stepped)
          (sym (trail_event _ _ _ _ _ _ _ _ _ seen) ∙ c.loop-event.invariant.left);
    }
