-- What recording a line answers, and the whole output afterwards.
use Rattle.std.specs.Prelude.{ℕ, ◌+◌, cond, List, length, set, ltb, Result, Ok, Err}
use Rattle.notation.specs.Lines.{line_of}
use Rattle.notation.specs.declared.Expected.{Expected}
use Rattle.notation.specs.declared.Line.{Line}
use Rattle.notation.specs.declared.Line.TheVariants.{Blank, Event, Byte}
use Rattle.writer.specs.Writing.{Said, Used, X, write}
use Rattle.script.specs.declared.Problem.{Problem}
use Rattle.script.specs.declared.Problem.TheVariants.{Full, Bad}

-- the new number of bytes used, or why it stays
abbrev pub Recorded : Type 0
Recorded = Result ℕ Problem

-- the only number that an event of a line is refused by is 14 (Claims.antt)
abbrev pub answered : Said → Recorded
answered (Used next) = Ok next
answered (X n) = Err Full

unfoldable pub write_byte : List ℕ → ℕ → ℕ → Recorded × List ℕ
write_byte out used b = cond (ltb used (length out)) (Ok (used + 1), set out used b) (Err Full, out)

abbrev pub recorded : Result Line Expected → List ℕ → ℕ → Recorded × List ℕ
recorded (Ok Blank) out used = (Ok used, out)
recorded (Ok (Event e)) out used = let w = write out used e in (answered w.0, w.1)
recorded (Ok (Byte b)) out used = write_byte out used b
recorded (Err expected) out used = (Err (Bad expected), out)

unfoldable pub record_line : List ℕ → List ℕ → ℕ → Recorded × List ℕ
record_line line out used = recorded (line_of line) out used
