-- Both round trips: a run of records is what writing its events makes, and reading it gives the events.
use Rattle.std.proofs.Common.{Ok, Err, Some, None}
use mathlib.Core.Path.{◌≡◌, refl, sym, ap, ◌∙◌}
use mathlib.Core.Bool.{Bool, true, false, cond, false≢true}
use mathlib.Core.List.{List, [], ◌∷◌, ◌++◌, append_assoc, append-nil}
use Prim.Native.Nat.{ℕ, zero, suc, ◌+◌, ◌<◌, ◌≤◌}
use native.Mathlib.Omega.{arith}
use lib.ListN.{length, take, drop, length-append, length-drop, take-append-drop, drop_of_length-le}
use lib.Seq.{take_at, drop_at, drop-drop, length-take-le, drop-append_seam}
use lib.Dec.{eqb}
use borrow.Author.Tests.{eqb-true}
use Rattle.rules.specs.declared.Event.{Event}
use Rattle.records.specs.Records.{record_at, Found}
use Rattle.records.specs.Recordings.{Records, before, records_within, records_from}
use Rattle.records.proofs.Laws.{at-end, advances, end-tells}
use Rattle.records.proofs.Recordings.{every_record}
use Rattle.writer.specs.Bytes.{record_of}
use Rattle.writer.specs.Writing.{Said, Used, X, unwritten, write}
use Rattle.trips.specs.Trips.{onwards, write_all, events, whole, AllHeld, Bytes, ReadBack, WrittenBack}
use Rattle.writer.proofs.Judged.{fitting, accepted, not_large}
use Rattle.trips.proofs.Reading.{Fits, found}
use Rattle.trips.proofs.Writing.{whole_back}

-- the records of events, one after the other
unfoldable records_of : List Event → List ℕ
records_of [] = []
records_of (e ∷ es) = record_of e ++ records_of es

abbrev AllFit : List Event → Type 0
AllFit [] = Unit {0}
AllFit (e ∷ es) = Fits e × AllFit es

module _ (b : List ℕ) (at : ℕ) (e : Event) where
  -- the buffer after an event is written
  unfoldable placed : List ℕ
  placed = take at b ++ record_of e ++ drop (at + length (record_of e)) b

  written : Fits e → at + length (record_of e) ≤ length b → write b at e ≡ (Used (at + length (record_of e)), placed)
  unfolding write placed
  written f h = rw (accepted (length b) at e f h)

  module _ (h : at + length (record_of e) ≤ length b) where
    front : length (take at b ++ record_of e) ≡ at + length (record_of e)
    front = let k = length-take-le at b (omega arith) in length-append (take at b) (record_of e) ∙ ap (λ (n : ℕ). n + length (record_of e)) k

    take-placed : take (at + length (record_of e)) placed ≡ take at b ++ record_of e
    unfolding placed
    take-placed = take_at _ _ _ front

    drop-placed : drop (at + length (record_of e)) placed ≡ drop (at + length (record_of e)) b
    unfolding placed
    drop-placed = drop_at (take at b ++ record_of e) (drop (at + length (record_of e)) b) (at + length (record_of e)) front

    length-placed : length placed ≡ length b
    unfolding placed
    length-placed =
        let n = length-append (take at b ++ record_of e) (drop (at + length (record_of e)) b) in
        omega (arith, n, front, length-drop (at + length (record_of e)) b)

-- events all accepted: the bytes used are those before, and then their records
abbrev Wrote : List Event → Type 0
Wrote es =
    (b : List ℕ) (at used : ℕ) (b' : List ℕ) → at ≤ length b → write_all b at es ≡ (Used used, b')
    → (take used b' ≡ take at b ++ records_of es) × AllFit es

one_more : (e : Event) (es : List Event) → Wrote es → (b : List ℕ) (at used : ℕ) (b' : List ℕ) (x : Bool)
    → eqb (unwritten (length b) at e) 0 ≡ x
    → let n = unwritten (length b) at e in
    onwards (λ (used : ℕ) (b : List ℕ). write_all b used es) (cond x (Used (at + length (record_of e))) (X n), cond x (placed b at e) b) ≡ (Used used, b')
    → (take used b' ≡ take at b ++ (record_of e ++ records_of es)) × (Fits e × AllFit es)
one_more e es more b at used b' true z w =
    let n = eqb-true (unwritten (length b) at e) 0 z in
    let room = fitting (length b) at e n in
    let rest = more (placed b at e) (at + length (record_of e)) used b' (omega (arith, length-placed b at e room)) w in (
      rest.0 ∙ ap (λ (l : List ℕ). l ++ records_of es) (take-placed b at e room) ∙ append_assoc (take at b) (record_of e) (records_of es),
      (not_large (length b) at e n, rest.1),
    )
one_more e es more b at used b' false z w =
    let answer = ap (λ (p : Said × List ℕ). p.0) w in
    let apart : ◌≡◌ {A = ℕ} 0 1 = cc in absurd (omega arith)

written_all : (es : List Event) → Wrote es
unfolding write_all records_of write placed
written_all [] b at used b' h w =
    let answer = ap (λ (p : Said × List ℕ). p.0) w in
    let n : at ≡ used = cc in
    let l : b ≡ b' = ap (λ (p : Said × List ℕ). p.1) w in
    (rw (← n, ← l) (sym (append-nil (take at b))), tt)
written_all (e ∷ es) b at used b' h w = one_more e es (written_all es) b at used b' (eqb (unwritten (length b) at e) 0) refl w

-- a run of records is read as their events
read_all : (es : List Event) (s : List ℕ) (at : ℕ) → drop at s ≡ records_of es → AllFit es → AllHeld es
    → (events (records_from s at) ≡ es) × (whole (records_from s at) ≡ true)
unfolding records_of
read_all [] s at d f h =
    let n : length s ≤ at = let k = sym (length-drop at s) ∙ ap (λ (l : List ℕ). length l) d in omega (arith, k) in
    rw (every_record s at, at-end s at n) (refl, refl)
read_all (e ∷ es) s at d f h =
    let next = at + length (record_of e) in
    let after : drop next s ≡ records_of es =
    sym (drop-drop (length (record_of e)) at s) ∙ ap (λ (l : List ℕ). drop (length (record_of e)) l) d ∙ drop-append_seam (record_of e) (records_of es) in
    let rest = read_all es s next after f.1 h.1 in
    rw (every_record s at, found s at e (records_of es) d f.0 h.0) (ap (λ (l : List Event). e ∷ l) rest.0, rest.1)

pub read_back : ReadBack
read_back b es used b' h w =
    let wrote = written_all es b 0 used b' (omega arith) w in
    read_all es (take used b') 0 wrote.0 wrote.1 h

-- whole records are those of their events
abbrev Rewritten : List ℕ → ℕ → Records → Type 0
Rewritten s at r = whole r ≡ true → (records_of (events r) ≡ drop at s) × AllFit (events r)

module _ (s : List ℕ) (bytes : Bytes s) where
  one-read : (n at : ℕ) (x : Found) → record_at s at ≡ x → ((at' : ℕ) → at < at' → at' ≤ length s → Rewritten s at' (records_within n s at'))
      → Rewritten s at (before x (records_within n s))
  unfolding records_of
  one-read n at (Ok None) e next w = (sym (drop_of_length-le s (end-tells s at e)), tt)
  one-read n at (Err r) e next w = absurd (false≢true w)
  one-read n at (Ok (Some (v, c))) e next w =
      let a = advances s at v c e in
      let back = whole_back s bytes at v c e in
      let rest = next c.at a.0 a.1 w in
      (ap (λ (l : List ℕ). record_of v ++ l) rest.0 ∙ back.1, (back.0, rest.1))

  rewritten : (n at : ℕ) → length s ≤ n + at → Rewritten s at (records_within n s at)
  unfolding records_within records_of
  rewritten zero at h w = let past : length s ≤ at = omega arith in (sym (drop_of_length-le s past), tt)
  rewritten (suc n) at h w = one-read n at (record_at s at) refl (λ at' k l. rewritten n at' (omega arith)) w

-- events that fit, in a buffer with room for their records
write-all : (es : List Event) (b : List ℕ) (at : ℕ) → AllFit es → at + length (records_of es) ≤ length b
    → write_all b at es ≡ (Used (at + length (records_of es)), take at b ++ records_of es ++ drop (at + length (records_of es)) b)
unfolding write_all records_of
write-all [] b at f h =
    let same : at + 0 ≡ at = omega arith in
    rw (same, append-nil (take at b), take-append-drop at b)
write-all (e ∷ es) b at f h =
    let r = record_of e in
    let rs = records_of es in
    let total = length-append r rs in
    let room : at + length r ≤ length b = omega (arith, total) in
    let next = at + length r in
    let sum : at + length (r ++ rs) ≡ next + length rs = omega (arith, total) in
    let rest = write-all es (placed b at e) next f.1 (omega (arith, total, length-placed b at e room)) in
    let beyond : drop (next + length rs) (placed b at e) ≡ drop (next + length rs) b =
    sym (drop-drop (length rs) next (placed b at e)) ∙ ap (λ (l : List ℕ). drop (length rs) l) (drop-placed b at e room) ∙ drop-drop (length rs) next b in
    rw (written b at e f.0 room, rest, take-placed b at e room, beyond, sum, append_assoc (take at b) r rs)

pub written_back : WrittenBack
written_back s b bytes w h =
    let r = rewritten s bytes (length s) 0 (omega arith) w in
    let bytes_of : records_of (events (records_from s 0)) ≡ s = r.0 in
    let same : 0 + length s ≡ length s = omega arith in
    rw (write-all (events (records_from s 0)) b 0 r.1 (rw bytes_of (omega arith)), bytes_of, same)
