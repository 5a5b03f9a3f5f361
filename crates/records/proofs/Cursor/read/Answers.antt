-- There is a byte and its number gives a kind: the record goes by its body.
use mathlib.Core.Path.{sym, ◌∙◌}
use native.Mathlib.Omega.{arith}
use Rattle.records.proofs.Numbers.{cut-at, whole_at}
use Rattle.records.proofs.Cursor.read.Goals as goal

pub returns-then-s-start : goal.returns-then-s-start
returns-then-s-start c =
    let h = c.in-Some.ensures.lookup in
    cut-at _ _ _ h.3.0 (h.3.1 0) _ (sym c.try_from.ensures ∙ c.in_ok-kind.was) (omega (arith, c.body-body.ensures))

pub returns : goal.returns
returns c =
    let h = c.in-Some.ensures.lookup in
    whole_at _ _ _ h.3.0 (h.3.1 0) _ (sym c.try_from.ensures ∙ c.in_ok-kind.was) _ c.body-body.ensures (omega arith) c.event-event.ensures
