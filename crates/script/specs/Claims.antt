-- A line's record has room in seven bytes, so that `Full` says only that these are not left.
use Rattle.std.specs.Prelude.{ℕ, ◌+◌, ◌<◌, ◌≡◌, List, length, Ok, Err}
use Rattle.rules.specs.Refusals.{lowest}
use Rattle.rules.specs.declared.Event.{Event}
use Rattle.notation.specs.Lines.{line_of}
use Rattle.notation.specs.declared.Line.TheVariants.{Event as AnEvent}
use Rattle.writer.specs.Writing.{large}
use Rattle.script.specs.Recording.{record_line}
use Rattle.script.specs.declared.Problem.TheVariants.{Full}

-- each field of an event that a line says fits its bytes
abbrev pub LineFits : Type 0
LineFits = (line : List ℕ) (e : Event) → line_of line ≡ Ok (AnEvent e) → lowest (large e) ≡ 0

abbrev pub OnlyRoom : Type 0
OnlyRoom = (line out : List ℕ) (used : ℕ) → (record_line line out used).0 ≡ Err Full → length out < used + 7
