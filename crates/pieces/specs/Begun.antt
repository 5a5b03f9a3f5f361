-- The state between pieces, and how far a piece was taken (request E4).
use Rattle.std.specs.Prelude.{ℕ, ◌+◌, ◌-◌, ◌<◌, ◌≤◌, min, Bool, true, false, cond, List, [], ◌∷◌, ◌++◌, length, take, drop, ltb, eqb}
use Rattle.rules.specs.declared.Refusal.TheVariants.{Store}
use Rattle.records.specs.Recordings.{Records, end, refusal}
use Rattle.pieces.specs.Limit.{limit, seen_from}
use Rattle.pieces.specs.Held.{longest_record, bytes_of, held_of}
use Rattle.pieces.specs.declared.Held.{Held}
use Rattle.pieces.specs.declared.Begun.{Begun}
use Rattle.pieces.specs.declared.Reached.{Reached}
use Rattle.pieces.specs.declared.How.{How}
use Rattle.pieces.specs.declared.How.TheVariants.{Full, Spent, Stopped}

abbrev pub begun : Held → ℕ → Bool → Begun
begun held at over = record { held = held; at = at; over = over }

-- before the first byte
abbrev pub fresh : Begun
fresh = begun (held_of []) 0 false

-- pieces one after the other
abbrev pub all_of : List (List ℕ) → List ℕ
all_of [] = []
all_of (piece ∷ pieces) = piece ++ all_of pieces

-- the bytes of the begun record, and a piece after them
abbrev pub joined : Begun → List ℕ → List ℕ
joined b piece = bytes_of b.held ++ piece

-- how many bytes the limit still allows, from the first byte held on
abbrev pub allowed : Begun → ℕ
allowed b = limit - b.at

-- the bytes inside the limit, and whether there are others
abbrev pub inside : Begun → List ℕ → List ℕ
inside b piece = take (allowed b) (joined b piece)

abbrev pub beyond : Begun → List ℕ → Bool
beyond b piece = ltb (allowed b) (length (joined b piece))

-- their records
abbrev pub records_in : Begun → List ℕ → Bool → Records
records_in b piece last = seen_from (beyond b piece) last (inside b piece) 0

-- the records of a piece, where the run is not over: 1 is tested first
abbrev pub judged : Begun → List ℕ → Bool → List ℕ → Records
judged b piece last l = cond (eqb (length l) 100) (records_in b piece last) (refusal Store)

-- the records that are to be told of: none if the run is over
unfoldable pub to_tell : Begun → List ℕ → Bool → List ℕ → Records
to_tell b piece last l = cond b.over end (judged b piece last l)

-- how many bytes are held; as code holds them they are at most seven
abbrev pub held_count : Begun → ℕ
held_count b = length (bytes_of b.held)

abbrev pub Few : Begun → Type 0
Few b = held_count b ≤ longest_record

-- a piece that offers a byte, or after which no more will come
abbrev pub Offers : List ℕ → Bool → Type 0
Offers piece true = Unit
Offers piece false = 0 < length piece

-- how far a piece was taken: the state then, and how many of the piece's bytes are taken
abbrev pub reached : Held → ℕ → Bool → ℕ → Reached
reached held at over taken = record { begun = begun held at over; taken = taken }

-- so many bytes on, no further than the limit
abbrev pub onward : Begun → ℕ → ℕ
onward b at = b.at + min at (allowed b)

-- the records before a place are done, and the bytes from there on are left
abbrev pub paused : Begun → ℕ → Reached
paused b at = reached (held_of (drop at (bytes_of b.held))) (onward b at) false (at - length (bytes_of b.held))

-- the records before a place are done, and the bytes from there on are held: a begun record
abbrev pub holding : Begun → List ℕ → ℕ → Reached
holding b piece at = reached (held_of (drop at (joined b piece))) (onward b at) false (length piece)

-- the run is over at a place
abbrev pub closed : Begun → List ℕ → ℕ → Reached
closed b piece at = reached (held_of []) (onward b at) true (length piece)

-- by how the records were gone through: a line does not fit; no record is left; the run is stopped
unfoldable pub landed : Begun → List ℕ → Bool → ℕ → How → Reached
landed b piece last at Full = paused b at
landed b piece last at Spent = cond last (closed b piece at) (holding b piece at)
landed b piece last at Stopped = closed b piece at
