-- The transcript of a recording: its whole text, and the store after its last record. No piece and no buffer plays a part in it.
use Rattle.std.specs.Prelude.{ℕ, cond, List, [], ◌++◌, length, eqb}
use Rattle.rules.specs.Paper.{X, number}
use Rattle.rules.specs.Step.{step}
use Rattle.records.specs.Recordings.{Records, event, end, refusal}
use Rattle.lines.specs.Lines.{Text, line_of}
use Rattle.pieces.specs.Limit.{records_of}

-- record by record: after an event, refused or not, the next; after a refusal by 1, 11, 12 or 13 nothing
unfoldable pub told : Records → List ℕ → Text × List ℕ
told end l = ([], l)
told (refusal r) l = (line_of (X (number r)), l)
told (event e next rest) l =
    let s = step l e in
    let after = told rest s.1 in
    (line_of s.0 ++ after.0, after.1)

-- 1 is tested first
unfoldable pub transcript : List ℕ → List ℕ → Text × List ℕ
transcript r l = cond (eqb (length l) 100) (told (records_of r) l) (line_of (X 1), l)
