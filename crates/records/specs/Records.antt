-- A record: one byte of kind, and a body (01, "Recordings").
use Rattle.std.specs.Prelude.{ℕ, ◌+◌, cond, List, length, ltb, leb, eqb, Result, Ok, Err, Some, None}
use Rattle.std.specs.declared.option.Option.{Option}
use Rattle.rules.specs.declared.Reference.{Reference}
use Rattle.rules.specs.declared.Event.{Event}
use Rattle.rules.specs.declared.Event.TheVariants.{Refer, Read, Write, Instruction, Interrupt, Change, Init}
use Rattle.rules.specs.declared.Refusal.{Refusal}
use Rattle.rules.specs.declared.Refusal.TheVariants.{Kind, Cut}
use Rattle.records.specs.declared.Cursor.{Cursor}
use Rattle.records.specs.Bytes.{byte_at, low_first, signed}
use Rattle.records.specs.Kinds.{known, body_of}

-- what stands at a place: a whole record, its event and the place past it; nothing; or an unknown kind (11) or a record cut short (12)
abbrev pub Found : Type 0
Found = Result (Option (Event × Cursor)) Refusal

-- kind 1: mode, space, access, phase, VA in 2
abbrev pub reference_at : List ℕ → ℕ → Reference
reference_at s at =
    record {
      mode = byte_at s at;
      space = byte_at s (at + 1);
      access = byte_at s (at + 2);
      phase = byte_at s (at + 3);
      va = low_first 2 s (at + 4);
    }

-- kind 6: register, amount
abbrev pub change_at : List ℕ → ℕ → Event
change_at s at = Change (byte_at s at) (signed (byte_at s (at + 1)))

-- the event of a kind, with its body from a place on; an address in 3, a value, a VA and a vector in 2
unfoldable pub event_of : ℕ → List ℕ → ℕ → Event
event_of kind s at =
    cond (eqb kind 1) (Refer (reference_at s at))
    (cond (eqb kind 2) (Read (low_first 3 s at))
    (cond (eqb kind 3) (Write (low_first 3 s at) (low_first 2 s (at + 3)))
    (cond (eqb kind 4) (Instruction (low_first 2 s at))
    (cond (eqb kind 5) (Interrupt (low_first 2 s at))
    (cond (eqb kind 6) (change_at s at)
    Init)))))

-- what stands at a place: nothing; else 11 for an unknown kind, then 12 for a body cut short; else the event
unfoldable pub record_at : List ℕ → ℕ → Found
record_at s at =
    let kind = byte_at s at in
    let next = at + 1 + body_of kind in
    cond (ltb at (length s))
    (cond (known kind)
    (cond (leb next (length s)) (Ok (Some (event_of kind s (at + 1), record { at = next }))) (Err Cut))
    (Err Kind))
    (Ok None)
