-- A recording fed in pieces: each feed writes whole lines into its output, while the next one fits (request E4).
use Rattle.std.specs.Prelude.{ℕ, ◌-◌, Bool, true, cond, ◌||◌, List, [], ◌++◌, length, drop, leb}
use Rattle.rules.specs.Paper.{X, number}
use Rattle.rules.specs.Step.{step}
use Rattle.records.specs.Recordings.{Records, event, end, refusal}
use Rattle.lines.specs.Lines.{Text, line_of}
use Rattle.pieces.specs.Begun.{to_tell, landed}
use Rattle.pieces.specs.declared.Begun.{Begun}
use Rattle.pieces.specs.declared.Reached.{Reached}
use Rattle.pieces.specs.declared.How.{How}
use Rattle.pieces.specs.declared.How.TheVariants.{Full, Spent, Stopped}
use Rattle.transcript.specs.Transcript.{told}
use Rattle.transcript.specs.declared.Fed.{Fed}

-- a stretch of a replay: the text written, the place reached, how it ended there, and the store then
pub record Stretch : Type 0 where
  pub text : Text
  pub at : ℕ
  pub how : How
  pub store : List ℕ

abbrev pub stretch : Text → ℕ → How → List ℕ → Stretch
stretch t at how l = record { text = t; at = at; how = how; store = l }

abbrev pub after : Text → Stretch → Stretch
after t q = stretch (t ++ q.text) q.at q.how q.store

-- a line and what comes after it, if the line fits the room; else the stretch ends before it
abbrev pub fits : ℕ → Text → ℕ → List ℕ → Stretch → Stretch
fits room line at l q = cond (leb (length line) room) (after line q) (stretch [] at Full l)

-- the first of the records whose lines fit the room
unfoldable pub fitting : ℕ → Records → ℕ → List ℕ → Stretch
fitting room end at l = stretch [] at Spent l
fitting room (refusal r) at l = fits room (line_of (X (number r))) at l (stretch [] at Stopped l)
fitting room (event e next rest) at l =
    let s = step l e in
    let line = line_of s.0 in
    fits room line at l (fitting (room - length line) rest next s.1)

-- one feed, with room for so many bytes, and how far it took the piece
abbrev pub feed_of : Begun → List ℕ → Bool → List ℕ → ℕ → Stretch
feed_of b piece last l room = fitting room (to_tell b piece last l) 0 l

abbrev pub reached_by : Begun → List ℕ → Bool → Stretch → Reached
reached_by b piece last q = landed b piece (last || b.over) q.at q.how

-- what a feed says of it, the store afterwards, and the output afterwards: the text, and beyond it the bytes that were there
unfoldable pub fed : List ℕ → Begun → List ℕ → Bool → List ℕ → Fed × List ℕ × List ℕ
fed l b piece last out =
    let q = feed_of b piece last l (length out) in (
      record { reached = reached_by b piece last q; written = length q.text },
      q.store,
      q.text ++ drop (length q.text) out,
    )

-- all that is still to be told from a state, where these are the bytes still to come, and the store at the end
abbrev pub left : Begun → List ℕ → List ℕ → Text × List ℕ
left b rest l = told (to_tell b rest true l) l
