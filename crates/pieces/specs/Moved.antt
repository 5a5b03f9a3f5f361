-- What was found in a part of a recording, as it stands in the whole.
use Rattle.std.specs.Prelude.{ℕ, ◌+◌, Ok, Err, Some, None}
use Rattle.records.specs.Records.{Found}

-- so many bytes further on
abbrev pub moved : ℕ → Found → Found
moved by (Ok (Some (e, next))) = Ok (Some (e, record { at = by + next.at }))
moved by (Err r) = Err r
moved by (Ok None) = Ok None

-- the place past a whole record
abbrev pub end_of : Found → ℕ
end_of (Ok (Some (e, next))) = next.at
end_of (Err r) = 0
end_of (Ok None) = 0
