-- Request E2: reading back gives the events written, and writing what was read from whole records gives the bytes.
use Rattle.std.specs.Prelude.{ℕ, ◌<◌, ◌≤◌, ◌≡◌, Bool, true, false, List, [], ◌∷◌, ◌++◌, length, take, drop}
use Rattle.rules.specs.declared.Event.{Event}
use Rattle.rules.specs.declared.Event.TheVariants.{Refer, Read, Write, Instruction, Interrupt, Change, Init}
use Rattle.records.specs.Bytes.{byte_at}
use Rattle.records.specs.Recordings.{Records, event, end, refusal, records_from}
use Rattle.writer.specs.Writing.{Said, Used, X, write}

-- events written one after the other, up to the first that is refused
abbrev pub onwards : (ℕ → List ℕ → Said × List ℕ) → Said × List ℕ → Said × List ℕ
onwards next (Used used, b) = next used b
onwards next (X n, b) = (X n, b)

unfoldable pub write_all : List ℕ → ℕ → List Event → Said × List ℕ
write_all b used [] = (Used used, b)
write_all b used (e ∷ es) = onwards (λ used b. write_all b used es) (write b used e)

-- the events of a recording's whole records, and whether it ends with the last of them
abbrev pub events : Records → List Event
events (event e next rest) = e ∷ events rest
events end = []
events (refusal r) = []

abbrev pub whole : Records → Bool
whole (event e next rest) = whole rest
whole end = true
whole (refusal r) = false

-- an event as code holds it: VA, value and vector have 16 bits
abbrev pub Held : Event → Type 0
Held (Refer r) = r.va < 0x10000
Held (Read address) = Unit {0}
Held (Write address value) = value < 0x10000
Held (Instruction va) = va < 0x10000
Held (Interrupt vector) = vector < 0x10000
Held (Change register amount) = Unit {0}
Held Init = Unit {0}

abbrev pub AllHeld : List Event → Type 0
AllHeld [] = Unit {0}
AllHeld (e ∷ es) = Held e × AllHeld es

-- a recording as code holds it: each of its numbers is a byte
abbrev pub Bytes : List ℕ → Type 0
Bytes s = (at : ℕ) → byte_at s at < 256

-- events written from an empty buffer, all accepted: the bytes used hold just these events
abbrev pub ReadBack : Type 0
ReadBack =
    (b : List ℕ) (es : List Event) (used : ℕ) (b' : List ℕ) → AllHeld es → write_all b 0 es ≡ (Used used, b')
    → let records = records_from (take used b') 0 in (events records ≡ es) × (whole records ≡ true)

-- the events of whole records, written to a buffer that has room for them: just these bytes
abbrev pub WrittenBack : Type 0
WrittenBack =
    (s b : List ℕ) → Bytes s → whole (records_from s 0) ≡ true → length s ≤ length b
    → write_all b 0 (events (records_from s 0)) ≡ (Used (length s), s ++ drop (length s) b)
