-- Any pieces, with room for the whole text: no feed is left for want of room, so that each takes its piece, and what it writes and
-- what is left stay the whole.
use mathlib.Core.Path.{◌≡◌, refl, sym, ap, ◌∙◌}
use mathlib.Core.Bool.{Bool, true, false}
use mathlib.Core.List.{List, [], ◌∷◌, ◌++◌, append_assoc}
use Prim.Native.Nat.{ℕ, ◌≤◌}
use native.Mathlib.Omega.{arith}
use lib.ListN.{length, drop, length-append}
use lib.Seq.{drop-length}
use Rattle.lines.specs.Lines.{Text}
use Rattle.pieces.specs.Begun.{fresh, all_of, to_tell, Few, landed}
use Rattle.pieces.specs.declared.Begun.{Begun}
use Rattle.pieces.specs.declared.How.{How}
use Rattle.pieces.specs.declared.How.TheVariants.{Full, Spent, Stopped}
use Rattle.pieces.proofs.Landing.{few-fresh}
use Rattle.transcript.specs.Transcript.{told}
use Rattle.transcript.specs.Feeding.{feed_of, reached_by, left}
use Rattle.transcript.specs.Claims.{pieces_of, InPieces}
use Rattle.transcript.proofs.Together.{together}
use Rattle.transcript.proofs.Reaching.{few-after}
use Rattle.transcript.proofs.Calls.{joining, at_first}
use Rattle.transcript.proofs.AtOnce.{all_fit, at_once}

-- not the last bytes
never : {A : Type 0} → false ≡ true → A
never h = cc

module _ (b : Begun) (piece more l : List ℕ) (few : Few b) where
  -- what a piece tells is the front of what is left
  front : length (told (to_tell b piece false l) l).0 ≤ length (left b (piece ++ more) l).0
  front =
      let n = length (told (to_tell b piece false l) l).0 in
      let q = feed_of b piece false l n in
      let k = reached_by b piece false q in
      let w = all_fit (to_tell b piece false l) n 0 l (omega arith) in
      let rest = left k.begun (drop k.taken piece ++ more) q.store in
      let t = ap (λ (x : Text × List ℕ). length x.0) (together b piece more false l n few never) in
      omega (arith, t, length-append q.text rest.0, ap (λ (x : Text). length x) w.text)

  -- so where all of that fits, the piece is taken
  all-taken : (last : Bool) (at : ℕ) (h : How) → (h ≡ Full → ⊥) → (landed b piece last at h).taken ≡ length piece
  unfolding landed
  all-taken last at Full n = absurd (n refl)
  all-taken true at Spent n = refl
  all-taken false at Spent n = refl
  all-taken last at Stopped n = refl

  and_more : (room : ℕ) → length (left b (piece ++ more) l).0 ≤ room
      → let q = feed_of b piece false l room in
      let rest = left (reached_by b piece false q).begun more q.store in
      (q.text ++ rest.0, rest.1) ≡ left b (piece ++ more) l
  and_more room h =
      let q = feed_of b piece false l room in
      let k = reached_by b piece false q in
      let w = all_fit (to_tell b piece false l) room 0 l (omega (arith, front, h)) in
      let e : drop k.taken piece ++ more ≡ more = rw (all-taken _ q.at q.how w.room-left, drop-length piece) in
      let f : List ℕ → Text × List ℕ = λ m. (q.text ++ (left k.begun m q.store).0, (left k.begun m q.store).1) in
      sym (ap f e) ∙ together b piece more false l room few never

-- one piece after the other, and then the last
in_pieces_lem : (pieces : List (List ℕ)) (piece : List ℕ) (b : Begun) (l : List ℕ) (room : ℕ) → Few b
    → length (left b (all_of pieces ++ piece) l).0 ≤ room
    → let q = pieces_of pieces b l room in
    let z = feed_of q.begun piece true q.store room in
    ((q.text ++ z.text, z.store) ≡ left b (all_of pieces ++ piece) l) × ((reached_by q.begun piece true z).begun.over ≡ true)
unfolding pieces_of
in_pieces_lem [] piece b l room few h = at_once b piece l room h
in_pieces_lem (p ∷ pieces) piece b l room few h =
    let more = all_of pieces ++ piece in
    let q = feed_of b p false l room in
    let to = reached_by b p false q in
    let rest = left to.begun more q.store in
    let same : left b (p ++ all_of pieces ++ piece) l ≡ left b (p ++ more) l = ap (λ (r : List ℕ). left b r l) (append_assoc p (all_of pieces) piece) in
    let fits : length (left b (p ++ more) l).0 ≤ room = rw (← same) h in
    let t = and_more b p more l few room fits in
    let n = ap (λ (x : Text × List ℕ). length x.0) t in
    let next = in_pieces_lem pieces piece to.begun q.store room (few-after b p false q) (omega (arith, n, fits, length-append q.text rest.0)) in
    let z = pieces_of pieces to.begun q.store room in
    let last = feed_of z.begun piece true z.store room in
    (joining q.text z.text (last.text, last.store) rest next.0 ∙ t ∙ sym same, next.1)

pub in_pieces : InPieces
in_pieces pieces piece l room h =
    let r = all_of pieces ++ piece in
    let t = at_first r l in
    let k = in_pieces_lem pieces piece fresh l room few-fresh (rw t h) in
    (k.0 ∙ t, k.1)
