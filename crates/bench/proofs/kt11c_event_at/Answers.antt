-- `kt11c_event_at` meets its contract: an event that a record holds fits its bytes, so that it has a code.
use mathlib.Core.Path.{sym, ◌∙◌}
use Rattle.trips.proofs.Writing.{whole_back}
use Rattle.bench.proofs.kt11c_event_at.Goals as goal

pub event_code-requires : goal.event_code-requires
event_code-requires c =
    (whole_back _ (λ at. (c.type_inv.recording at).fits) _ _ _ (sym c.read.ensures ∙ rw c.in-Ok-Some.field-0-is at c.in-Ok-Some.is)).0
