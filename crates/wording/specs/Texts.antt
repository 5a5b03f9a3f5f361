-- The report as text, a line for each thing it says. Byte offsets are eight decimal digits, blocks four octal ones, refusals two.
use Rattle.std.specs.Prelude.{ℕ, ◌/◌, ◌%◌, cond, List, [], ◌∷◌, ◌++◌, length, drop, ltb, eqb, None, Some, Result, Ok, Err}
use Rattle.std.specs.declared.option.Option.{Option}
use Rattle.rules.specs.Paper.{number}
use Rattle.rules.specs.declared.Refusal.{Refusal}
use Rattle.lines.specs.Digits.{digit, decimal, octal}
use Rattle.auditing.specs.declared.Reason.{Reason}
use Rattle.auditing.specs.declared.Reason.TheVariants.{Init, WritesSr3, RelocationOff, ChangesPar, ChangesEd, Narrows, LosesRights}
use Rattle.meetings.specs.declared.Meeting.{Meeting}
use Rattle.account.specs.declared.Report.{Report}
use Rattle.lines.specs.Chars.{chars}

abbrev pub Text : Type 0
Text = List ℕ

abbrev pub offset_text : ℕ → Text
offset_text at = decimal 8 at

abbrev pub refusal_text : Refusal → Text
refusal_text r = decimal 2 (number r)

abbrev pub reason_text : Reason → Text
reason_text Init = chars "INIT"
reason_text WritesSr3 = chars "a write to SR3"
reason_text RelocationOff = chars "relocation not left on"
reason_text ChangesPar = chars "PAR of a resident page changed"
reason_text ChangesEd = chars "ED of a resident page changed"
reason_text Narrows = chars "length of a resident page narrowed"
reason_text LosesRights = chars "rights of a resident page lost"

-- a page by its place among the 48, as `Kernel I 3` and `User D 5`
abbrev pub mode_text : ℕ → Text
mode_text k = cond (eqb k 0) (chars "Kernel") (cond (eqb k 1) (chars "Supervisor") (chars "User"))

abbrev pub set_text : ℕ → Text
set_text k = cond (eqb k 0) (chars " I ") (chars " D ")

abbrev pub page_text : ℕ → Text
page_text page = mode_text (page / 16) ++ set_text (page / 8 % 2) ++ (digit (page % 8) ∷ [])

-- how the run ended
abbrev pub end_text : Result (Unit {0}) Refusal → ℕ → Text
end_text (Ok u) at = chars "end: all records read, " ++ offset_text at ++ chars " bytes\n"
end_text (Err r) at = chars "end: stopped by " ++ refusal_text r ++ chars " at byte " ++ offset_text at ++ chars "\n"

-- from where on it kept demand 3's premises to its end
abbrev pub kept_text : Option ℕ → Text
kept_text (Some at) = chars "kept: from byte " ++ offset_text at ++ chars " to the end\n"
kept_text None = chars "kept: not at the end, relocation is off\n"

-- which record broke them last, and why
abbrev pub broken_text : Option (ℕ × Reason) → Text
broken_text (Some p) = chars "broken: last at byte " ++ offset_text p.0 ++ chars ", " ++ reason_text p.1 ++ chars "\n"
broken_text None = chars "broken: nowhere\n"

-- whether the last map keeps the modes apart
abbrev pub map_text : Result (Option Meeting) Refusal → Text
map_text (Ok None) = chars "map: the modes are apart\n"
map_text (Ok (Some m)) =
    chars "map: block " ++ octal 4 m.block ++ chars " is shared by " ++ page_text m.first ++ chars " and " ++ page_text m.second ++ chars "\n"
map_text (Err r) = chars "map: refused by " ++ refusal_text r ++ chars "\n"

abbrev pub report_text : Report → Text
report_text r =
    end_text r.course.ending r.course.at ++
    kept_text r.course.tally.kept ++ broken_text r.course.tally.broken ++ map_text r.map

-- for 1 only that it was refused
abbrev pub text_of : Result Report Refusal → Text
text_of (Ok r) = report_text r
text_of (Err r) = chars "end: refused by " ++ refusal_text r ++ chars "\n"

-- the text at the start of an output that has room for the longest: how many bytes are written, and the output afterwards
unfoldable pub placed_of : List ℕ → Result Report Refusal → Option ℕ × List ℕ
placed_of out a = cond (ltb (length out) 320) (None, out) (Some (length (text_of a)), text_of a ++ drop (length (text_of a)) out)
