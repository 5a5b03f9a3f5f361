-- Request E2: what appending an event's record to a lent buffer answers, and the buffer afterwards.
use Rattle.std.specs.Prelude.{ℕ, ◌+◌, ◌≡◌, Bool, cond, not, ◌||◌, List, [], ◌∷◌, ◌++◌, length, take, drop, ltb, eqb, ℤ, pos, negsuc, Result, Ok, Err}
use Rattle.rules.specs.Paper.{number}
use Rattle.rules.specs.Refusals.{Conditions, lowest}
use Rattle.rules.specs.declared.Refusal.{Refusal}
use Rattle.rules.specs.declared.Reference.{Reference}
use Rattle.rules.specs.declared.Event.{Event}
use Rattle.rules.specs.declared.Event.TheVariants.{Refer, Read, Write, Instruction, Interrupt, Change, Init}
use Rattle.writer.specs.Bytes.{record_of}

-- the new number of bytes used; or a refusal's number
pub data Said : Type 0 where
  Used : ℕ → Said
  X : ℕ → Said

abbrev pub said : Result ℕ Refusal → Said
said (Ok used) = Used used
said (Err r) = X (number r)

-- no two answers say the same
abbrev pub SaidOneToOne : Type 0
SaidOneToOne = (a b : Result ℕ Refusal) → said a ≡ said b → a ≡ b

-- the number that refuses, 0 for none
abbrev pub refused_by : {T : Type 0} → Result T Refusal → ℕ
refused_by (Ok x) = 0
refused_by (Err r) = number r

-- an amount that a byte holds: -128 to 127
abbrev pub in_byte : ℤ → Bool
in_byte (pos n) = ltb n 128
in_byte (negsuc n) = ltb n 128

-- the fields too large for their bytes, by 01's numbers
abbrev pub large_reference : Reference → Conditions
large_reference r =
    (2, ltb 255 r.mode) ∷ (3, ltb 255 r.space) ∷ (4, ltb 255 r.access) ∷ (5, ltb 255 r.phase) ∷ []

abbrev pub large_address : ℕ → Conditions
large_address address = (6, ltb 0o77777777 address) ∷ []

abbrev pub large_change : ℕ → ℤ → Conditions
large_change register amount = (9, ltb 255 register || not (in_byte amount)) ∷ []

abbrev pub large : Event → Conditions
large (Refer r) = large_reference r
large (Read address) = large_address address
large (Write address value) = large_address address
large (Instruction va) = []
large (Interrupt vector) = []
large (Change register amount) = large_change register amount
large Init = []

-- 14: a record of so many bytes does not fit in what is left of the room
abbrev pub short : ℕ → ℕ → ℕ → Conditions
short room used bytes = (14, ltb room (used + bytes)) ∷ []

-- the first number that holds, 0 for none
unfoldable pub unwritten : ℕ → ℕ → Event → ℕ
unwritten room used e = lowest (large e ++ short room used (length (record_of e)))

-- the answer: the new number of bytes used, unless a number holds
abbrev pub answer : ℕ → ℕ → Said
answer refusal used = cond (eqb refusal 0) (Used used) (X refusal)

-- some bytes in place of those from a place on
abbrev pub laid : List ℕ → ℕ → List ℕ → List ℕ
laid b at bytes = take at b ++ bytes ++ drop (at + length bytes) b

-- the answer, and the whole buffer afterwards
unfoldable pub write : List ℕ → ℕ → Event → Said × List ℕ
write b used e =
    let bytes = record_of e in
    let next = used + length bytes in
    let refusal = unwritten (length b) used e in
    (answer refusal next, cond (eqb refusal 0) (laid b used bytes) b)
