-- The limit of a recording, and how its records end there (request E4).
use Rattle.std.specs.Prelude.{ℕ, ◌≡◌, Bool, true, cond, List, length, take, ltb, eqb, Ok, Err, Some, None}
use Rattle.rules.specs.Paper.{number}
use Rattle.rules.specs.declared.Refusal.TheVariants.{Long}
use Rattle.records.specs.Records.{record_at, Found}
use Rattle.records.specs.Recordings.{Records, event, end, refusal, before, records_from}

-- 16 MiB
abbrev pub limit : ℕ
limit = 16777216

-- what stands where the bytes inside the limit hold no whole record. Where bytes lie beyond the limit, 13 is given in place of
-- the end and of 12; and 12 only if these bytes are the last
abbrev pub ending : Bool → Bool → Found → Found
ending beyond last (Ok (Some (e, next))) = Ok (Some (e, next))
ending beyond last (Ok None) = cond beyond (Err Long) (Ok None)
ending beyond last (Err r) = cond (eqb (number r) 12) (cond beyond (Err Long) (cond last (Err r) (Ok None))) (Err r)

-- the record at a place of bytes inside the limit, and the records from there on
abbrev pub seen_at : Bool → Bool → List ℕ → ℕ → Found
seen_at beyond last s at = ending beyond last (record_at s at)

abbrev pub ended : Bool → Bool → Records → Records
ended beyond last (event e next rest) = event e next (ended beyond last rest)
ended beyond last end = before (ending beyond last (Ok None)) (λ at. end)
ended beyond last (refusal r) = before (ending beyond last (Err r)) (λ at. end)

abbrev pub seen_from : Bool → Bool → List ℕ → ℕ → Records
seen_from beyond last s at = ended beyond last (records_from s at)

-- the records of a whole recording
unfoldable pub records_of : List ℕ → Records
records_of r = seen_from (ltb limit (length r)) true (take limit r) 0

-- record by record
abbrev pub EverySeen : Type 0
EverySeen =
    (beyond last : Bool) (s : List ℕ) (at : ℕ)
    → seen_from beyond last s at ≡ before (seen_at beyond last s at) (seen_from beyond last s)
