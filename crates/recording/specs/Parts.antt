-- What the parts of a feed do: one event, the last line, and the records from a place on.
use Rattle.std.specs.Prelude.{ℕ, ◌+◌, ◌-◌, Bool, cond, List, ◌++◌, length, drop, leb, None, Some}
use Rattle.std.specs.declared.option.Option.{Option}
use Rattle.rules.specs.Step.{step}
use Rattle.rules.specs.declared.Event.{Event}
use Rattle.lines.specs.Lines.{Text, line_of, placed}
use Rattle.pieces.specs.Limit.{seen_from}
use Rattle.pieces.specs.Begun.{judged}
use Rattle.pieces.specs.declared.Begun.{Begun}
use Rattle.pieces.specs.declared.How.{How}
use Rattle.pieces.specs.declared.How.TheVariants.{Full, Stopped}
use Rattle.transcript.specs.Feeding.{Stretch, fitting}
use Rattle.recording.specs.declared.Stepped.{Stepped}

abbrev pub stepped : ℕ → How → ℕ → Stepped
stepped at how written = record { at = at; how = how; written = written }

-- what a stretch shows, the store afterwards, and the output afterwards: the text, and beyond it the bytes that were there
abbrev pub shown : Stretch → List ℕ → Stepped × List ℕ × List ℕ
shown q out = (stepped q.at q.how (length q.text), q.store, q.text ++ drop (length q.text) out)

-- the records of some bytes inside the limit, from a place on
abbrev pub ahead : Bool → Bool → List ℕ → ℕ → List ℕ → ℕ → Stretch
ahead beyond last s at l room = fitting room (seen_from beyond last s at) at l

-- the records of a piece, where the run is not over
unfoldable pub going : Begun → List ℕ → Bool → List ℕ → ℕ → Stretch
going b piece last l room = fitting room (judged b piece last l) 0 l

-- an event and its line at a place of the output, where the line fits: how many bytes are written, the store and the output afterwards
unfoldable pub taken : List ℕ → Event → List ℕ → ℕ → Option ℕ × List ℕ × List ℕ
taken l e out written =
    let s = step l e in
    let line = line_of s.0 in
    let put = placed out written line in
    cond (leb (length line) (length out - written)) (put.0, s.1, put.1) (None, l, out)

-- a feed's last line, by how many bytes of it were written: stopped, if the line fits
abbrev pub stopped_by : ℕ → ℕ → Option ℕ → Stepped
stopped_by at written None = stepped at Full written
stopped_by at written (Some n) = stepped at Stopped (written + n)

-- at a place of the output
unfoldable pub ended : List ℕ → ℕ → ℕ → Text → Stepped × List ℕ
ended out at written line =
    let put = placed out written line in
    (stopped_by at written put.0, put.1)
