-- The audit of a recording that comes in pieces (request E4): what the records so far tell, and what a piece adds to it.
use Rattle.std.specs.Prelude.{ℕ, ◌+◌, Bool, false, cond, ◌||◌, List, [], ◌∷◌, length, eqb, Result, Ok, Err, None}
use Rattle.rules.specs.Words.{word, SR0, relocates}
use Rattle.rules.specs.Step.{step}
use Rattle.rules.specs.declared.Refusal.{Refusal}
use Rattle.rules.specs.declared.Refusal.TheVariants.{Store}
use Rattle.records.specs.Recordings.{Records, event, end, refusal}
use Rattle.pieces.specs.Begun.{fresh, to_tell, landed}
use Rattle.pieces.specs.declared.How.{How}
use Rattle.pieces.specs.declared.How.TheVariants.{Spent, Stopped}
use Rattle.auditing.specs.Verdicts.{verdict_of}
use Rattle.meetings.specs.Parting.{parting_of}
use Rattle.account.specs.declared.Tally.{Tally}
use Rattle.account.specs.declared.Course.{Course}
use Rattle.account.specs.declared.Report.{Report}
use Rattle.account.specs.declared.Survey.{Survey}
use Rattle.account.specs.Runs.{Ending}
use Rattle.account.specs.Turns.{fresh as freshKept, tally_after}

abbrev pub course : Tally → ℕ → Ending → Course
course tally at ending = record { tally = tally; at = at; ending = ending }

-- record by record, with what is carried there. A place counts from the first byte held; an offset that is told is `base` more
unfoldable pub trail : ℕ → Records → ℕ → Tally → List ℕ → Course × List ℕ
trail base end at tally l = (course tally at (Ok tt), l)
trail base (refusal r) at tally l = (course tally at (Err r), l)
trail base (event e next rest) at tally l =
    let s = (step l e).1 in
    trail base rest next (tally_after tally (verdict_of l e) (relocates (word s SR0)) (base + at) (base + next)) s

-- before the first byte
abbrev pub begins : List ℕ → Survey
begins l = record { begun = fresh; tally = record { kept = freshKept (relocates (word l SR0)) 0; broken = None }; ending = Ok tt }

abbrev pub how_by : Ending → How
how_by (Ok u) = Spent
how_by (Err r) = Stopped

-- a piece more, and whether it is the last
unfoldable pub surveyed : List ℕ → Survey → List ℕ → Bool → Survey × List ℕ
surveyed l v piece last =
    let b = v.begun in
    let t = trail b.at (to_tell b piece last l) 0 v.tally l in
    let c = t.0 in (
      record {
        begun = (landed b piece (last || b.over) c.at (how_by c.ending)).begun;
        tally = c.tally;
        ending = cond b.over v.ending c.ending;
      },
      t.1,
    )

-- the report at the end: refused by 1, or the course and the store's map
abbrev pub course_by : Survey → Course
course_by v = course v.tally v.begun.at v.ending

unfoldable pub report_of : List ℕ → Survey → Result Report Refusal
report_of l v = cond (eqb (length l) 100) (Ok (record { course = course_by v; map = parting_of l })) (Err Store)

-- piece after piece, none of them the last
unfoldable pub surveys_of : List (List ℕ) → Survey → List ℕ → Survey × List ℕ
surveys_of [] v l = (v, l)
surveys_of (piece ∷ pieces) v l = let q = surveyed l v piece false in surveys_of pieces q.0 q.1
