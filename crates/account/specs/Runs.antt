-- A run: a recording's records one after the other from a store, to its end or to a record that can't be read.
use Rattle.std.specs.Prelude.{ℕ, List, [], ◌∷◌, Result, Ok, Err}
use Rattle.rules.specs.declared.Refusal.{Refusal}
use Rattle.rules.specs.Step.{step}
use Rattle.rules.specs.declared.Event.{Event}
use Rattle.records.specs.Recordings.{Records, event, end, refusal}

-- how a run ended: no record stopped it, or it was stopped by a refusal
abbrev pub Ending : Type 0
Ending = Result Unit Refusal

-- a record: its first byte's offset, the store before it, and its event
pub record Point : Type 0 where
  pub at : ℕ
  pub store : List ℕ
  pub event : Event

abbrev pub point : ℕ → List ℕ → Event → Point
point at l e = record { at = at; store = l; event = e }

-- the records; the offset where the run ended, the last store, and how it ended
pub record Run : Type 0 where
  pub points : List Point
  pub at : ℕ
  pub store : List ℕ
  pub ending : Ending

abbrev pub ended : ℕ → List ℕ → Ending → Run
ended at l x = record { points = []; at = at; store = l; ending = x }

abbrev pub before : Point → Run → Run
before p q = record { points = p ∷ q.points; at = q.at; store = q.store; ending = q.ending }

-- from an offset on: an event and then the next record, the end, or a refusal by 11, 12 or 13
abbrev pub run : Records → ℕ → List ℕ → Run
run (event e next rest) at l = before (point at l e) (run rest next (step l e).1)
run end at l = ended at l (Ok tt)
run (refusal r) at l = ended at l (Err r)
