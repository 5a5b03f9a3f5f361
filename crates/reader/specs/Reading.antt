-- Where a reader stands after the record at its place: past it, and where no whole record stands, as it was.
use Rattle.std.specs.Prelude.{ℕ, List, Ok, Err, Some, None}
use Rattle.records.specs.Records.{record_at, Found}

abbrev pub past : Found → ℕ → ℕ
past (Ok (Some (e, next))) at = next.at
past (Err r) at = at
past (Ok None) at = at

unfoldable pub place_after : List ℕ → ℕ → ℕ
place_after s at = past (record_at s at) at
