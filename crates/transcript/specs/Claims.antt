-- What feeds make together, however the recording is cut. The proofs are in proofs/.
use Rattle.std.specs.Prelude.{ℕ, ◌+◌, ◌*◌, ◌<◌, ◌≤◌, ◌≡◌, Bool, true, false, ◌&&◌, List, [], ◌∷◌, ◌++◌, length, take, drop, replicate, leb, Some}
use Rattle.rules.specs.Paper.{G, R, D}
use Rattle.lines.specs.Lines.{Text, line_of, longest}
use Rattle.pieces.specs.Limit.{limit}
use Rattle.pieces.specs.Begun.{fresh, all_of, Few, held_count, Offers}
use Rattle.pieces.specs.declared.Begun.{Begun}
use Rattle.transcript.specs.Transcript.{transcript}
use Rattle.transcript.specs.Feeding.{feed_of, reached_by, left}

-- whatever the room, what a feed writes and what is then left make what was left before. Only the last bytes are said to be the last
abbrev pub Together : Type 0
Together =
    (b : Begun) (piece more : List ℕ) (last : Bool) (l : List ℕ) (room : ℕ)
    → Few b → (last ≡ true → more ≡ [])
    → let q = feed_of b piece last l room in
    let k = reached_by b piece last q in
    let rest = left k.begun (drop k.taken piece ++ more) q.store in
    (q.text ++ rest.0, rest.1) ≡ left b (piece ++ more) l

-- a call: how many of the bytes still to come are offered, whether they are said to be the last, and the room for text
pub record Call : Type 0 where
  pub offer : ℕ
  pub last : Bool
  pub room : ℕ

-- whether a call says its bytes are the last; said too early it does not count
abbrev pub last_of : Call → List ℕ → Bool
last_of k r = k.last && leb (length r) k.offer

-- how far calls came: the text so far, the state, the bytes still to come, and the store
pub record Calls : Type 0 where
  pub text : Text
  pub begun : Begun
  pub rest : List ℕ
  pub store : List ℕ

abbrev pub before : Text → Calls → Calls
before t q = record { text = t ++ q.text; begun = q.begun; rest = q.rest; store = q.store }

-- one call after the other: what it does not take is offered again
unfoldable pub calls_of : List Call → Begun → List ℕ → List ℕ → Calls
calls_of [] b r l = record { text = []; begun = b; rest = r; store = l }
calls_of (k ∷ ks) b r l =
    let piece = take k.offer r in
    let q = feed_of b piece (last_of k r) l k.room in
    let to = reached_by b piece (last_of k r) q in
    before q.text (calls_of ks to.begun (drop to.taken r) q.store)

-- however the bytes are cut and whatever the rooms, the text so far and what is left are the uncut recording's
abbrev pub AnyCut : Type 0
AnyCut =
    (ks : List Call) (r l : List ℕ)
    → let q = calls_of ks fresh r l in
    let rest = left q.begun q.rest q.store in
    (q.text ++ rest.0, rest.1) ≡ transcript r l

-- so, once the run is over, the lines and the registers are those of the uncut recording
abbrev pub Uncut : Type 0
Uncut = (ks : List Call) (r l : List ℕ) → let q = calls_of ks fresh r l in q.begun.over ≡ true → (q.text, q.store) ≡ transcript r l

-- pieces one after the other, none of them the last: the text, the state and the store after them
unfoldable pub pieces_of : List (List ℕ) → Begun → List ℕ → ℕ → Calls
pieces_of [] b l room = record { text = []; begun = b; rest = []; store = l }
pieces_of (piece ∷ pieces) b l room =
    let q = feed_of b piece false l room in
    let to = reached_by b piece false q in
    before q.text (pieces_of pieces to.begun q.store room)

-- with room for the whole text, any pieces, empty ones too, and a last one make exactly the transcript, and the run is over
abbrev pub InPieces : Type 0
InPieces =
    (pieces : List (List ℕ)) (piece l : List ℕ) (room : ℕ)
    → let r = all_of pieces ++ piece in
    length (transcript r l).0 ≤ room
    → let q = pieces_of pieces fresh l room in
    let z = feed_of q.begun piece true q.store room in
    ((q.text ++ z.text, z.store) ≡ transcript r l) × ((reached_by q.begun piece true z).begun.over ≡ true)

-- room for any line
abbrev pub Roomy : ℕ → Type 0
Roomy room = longest ≤ room

-- a call that offers a byte and has room for any line, and whose last bytes are said to be the last
pub record Able (k : Call) : Type 0 where
  pub some : 0 < k.offer
  pub roomy : Roomy k.room
  pub tells : k.last ≡ true

abbrev pub AllAble : List Call → Type 0
AllAble [] = Unit
AllAble (k ∷ ks) = Able k × AllAble ks

-- enough of them end the run
abbrev pub Enough : Type 0
Enough = (ks : List Call) (r l : List ℕ) → AllAble ks → 2 * length r < length ks → (calls_of ks fresh r l).begun.over ≡ true

-- where all that is still to be told fits, one call with the bytes still to come tells it and ends the run
abbrev pub AtOnce : Type 0
AtOnce =
    (b : Begun) (r l : List ℕ) (room : ℕ) → length (left b r l).0 ≤ room
    → let q = feed_of b r true l room in
    ((q.text, q.store) ≡ left b r l) × ((reached_by b r true q).begun.over ≡ true)

-- what a caller's loop goes by: a feed that offers a byte or says that no more will come, has room for any line and does not end
-- the run, uses bytes up, of the piece or of those held
abbrev pub Progress : Type 0
Progress =
    (b : Begun) (piece : List ℕ) (last : Bool) (l : List ℕ) (room : ℕ) → Few b → Offers piece last → Roomy room
    → let k = reached_by b piece last (feed_of b piece last l room) in
    k.begun.over ≡ false → held_count k.begun < held_count b + 2 * k.taken

-- and the bytes so far are counted, up to the limit
abbrev pub Counted : Type 0
Counted =
    (b : Begun) (piece : List ℕ) (last : Bool) (l : List ℕ) (room : ℕ) → Few b
    → let k = reached_by b piece last (feed_of b piece last l room) in
    k.begun.over ≡ false → b.at + held_count b ≤ limit
    → (k.begun.at + held_count k.begun ≡ b.at + held_count b + k.taken) × (k.begun.at + held_count k.begun ≤ limit)

-- the whole case of 01, from all registers 0, with the page as request E1 has it
abbrev pub whole_case_bytes : List ℕ
whole_case_bytes =
    0x03 ∷ 0xEE ∷ 0xF4 ∷ 0x03 ∷ 0x2E ∷ 0x07
    ∷ 0x03 ∷ 0xCE ∷ 0xF4 ∷ 0x03 ∷ 0x06 ∷ 0x7F
    ∷ 0x03 ∷ 0x7A ∷ 0xFF ∷ 0x03 ∷ 0x01 ∷ 0x00
    ∷ 0x01 ∷ 0x00 ∷ 0x00 ∷ 0x00 ∷ 0x00 ∷ 0x2E ∷ 0xEF
    ∷ 0x02 ∷ 0xCE ∷ 0xF4 ∷ 0x03 ∷ []

abbrev pub WholeCase : Type 0
WholeCase =
    (transcript whole_case_bytes (replicate 100 0)).0
    ≡ line_of D ++ line_of D ++ line_of D ++ line_of (G 0o355256 false (Some 7)) ++ line_of (R 0o077406)
