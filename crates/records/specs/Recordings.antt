-- A recording as what it holds, record after record.
use Rattle.std.specs.Prelude.{ℕ, zero, suc, ◌≡◌, List, length, Ok, Err, Some, None}
use Rattle.rules.specs.declared.Event.{Event}
use Rattle.rules.specs.declared.Refusal.{Refusal}
use Rattle.records.specs.Records.{record_at, Found}

-- from a place on: an event, the place after it, and what follows there; or the recording's end; or a refusal: `record_at` gives 11
-- and 12, and `pieces` adds 13, and 1
pub data Records : Type 0 where
  event : Event → ℕ → Records → Records
  end : Records
  refusal : Refusal → Records

-- what stands at a place, and then what follows it
abbrev pub before : Found → (ℕ → Records) → Records
before (Ok (Some (e, next))) rest = event e next.at (rest next.at)
before (Ok None) rest = end
before (Err r) rest = refusal r

-- at most n records
unfoldable pub records_within : ℕ → List ℕ → ℕ → Records
records_within zero s at = end
records_within (suc n) s at = before (record_at s at) (records_within n s)

-- all of them: a recording has no more records than bytes
abbrev pub records_from : List ℕ → ℕ → Records
records_from s at = records_within (length s) s at

-- that bound cuts nothing off
abbrev pub EveryRecord : Type 0
EveryRecord = (s : List ℕ) (at : ℕ) → records_from s at ≡ before (record_at s at) (records_from s)
