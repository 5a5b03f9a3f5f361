-- What C sees of a recording that is written or read: one number. include/kt11c.h says the same for C.
use Rattle.std.specs.Prelude.{ℕ, ◌+◌, ◌*◌, ◌-◌, ◌/◌, ◌%◌, ◌≡◌, cond, List, ltb, eqb, ℤ, pos, negsuc, Ok, Err, Some, None}
use Rattle.rules.specs.Paper.{number}
use Rattle.rules.specs.declared.Reference.{Reference}
use Rattle.rules.specs.declared.Event.{Event}
use Rattle.rules.specs.declared.Event.TheVariants.{Refer, Read, Write, Instruction, Interrupt, Change, Init}
use Rattle.records.specs.Records.{Found}
use Rattle.rules.specs.References.{reference_of}
use Rattle.rules.specs.Refusals.{lowest}
use Rattle.writer.specs.Writing.{Said, Used, X, large}
use Rattle.trips.specs.Trips.{Held}

-- writing: 6 in bits 31:28 and how many bytes were appended, or 5 and the refusal's number
abbrev pub said_code : ℕ → Said → ℕ
said_code used (Used next) = 0x60000000 + (next - used)
said_code used (X n) = 0x50000000 + n

-- with the buffer afterwards
abbrev pub coded : ℕ → Said × List ℕ → ℕ × List ℕ
coded used s = (said_code used s.0, s.1)

-- an amount from -128 to 127 as 0 to 255
abbrev pub excess : ℤ → ℕ
excess (pos n) = 128 + n
excess (negsuc n) = 127 - n

-- an event's fields: VA, value or vector in bits 47:32; of a reference phase, access, space and mode in a byte each below; an
-- address in bits 23:0; a register in bits 15:8, and the amount with 128 added in bits 7:0
abbrev pub fields : Event → ℕ
fields (Refer r) = r.va * 0x100000000 + r.phase * 0x1000000 + r.access * 0x10000 + r.space * 0x100 + r.mode
fields (Read address) = address
fields (Write address value) = value * 0x100000000 + address
fields (Instruction va) = va * 0x100000000
fields (Interrupt vector) = vector * 0x100000000
fields (Change register amount) = register * 0x100 + excess amount
fields Init = 0

abbrev pub kind_of : Event → ℕ
kind_of (Refer r) = 1
kind_of (Read address) = 2
kind_of (Write address value) = 3
kind_of (Instruction va) = 4
kind_of (Interrupt vector) = 5
kind_of (Change register amount) = 6
kind_of Init = 7

unfoldable pub event_code : Event → ℕ
event_code e = 0x7000000000000000 + kind_of e * 0x100000000000000 + fields e

-- reading: 7 in bits 63:60, the kind in bits 59:56 and the fields; 5 and the refusal's number; 0 at the end
abbrev pub found_code : Found → ℕ
found_code (Ok (Some (e, next))) = event_code e
found_code (Err r) = 0x5000000000000000 + number r
found_code (Ok None) = 0

-- the event that a code stands for
abbrev pub unexcess : ℕ → ℤ
unexcess n = cond (ltb n 128) (negsuc (127 - n)) (pos (n - 128))

unfoldable pub event_of : ℕ → Event
event_of code =
    let kind = code / 0x100000000000000 % 16 in
    let word = code / 0x100000000 % 0x10000 in
    let address = code % 0x1000000 in
    let low = code % 0x100 in
    let second = code / 0x100 % 0x100 in
    cond (eqb kind 1) (Refer (reference_of low second (code / 0x10000 % 0x100) (code / 0x1000000 % 0x100) word))
    (cond (eqb kind 2) (Read address)
    (cond (eqb kind 3) (Write address word)
    (cond (eqb kind 4) (Instruction word)
    (cond (eqb kind 5) (Interrupt word)
    (cond (eqb kind 6) (Change second (unexcess low))
    Init)))))

-- an event whose fields fit is read back from its code, so that no two have the same one
abbrev pub CodeReadBack : Type 0
CodeReadBack = (e : Event) → lowest (large e) ≡ 0 → Held e → event_of (event_code e) ≡ e
