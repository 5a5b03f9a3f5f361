-- What a feed writes and what is then left make what was left before: by the tests before the records, and by how they were gone through.
use Rattle.std.proofs.Common.{Ok, None}
use mathlib.Core.Path.{◌≡◌, refl, ap, ◌∙◌}
use mathlib.Core.Bool.{Bool, true, false, cond, ◌||◌}
use mathlib.Core.List.{List, [], ◌++◌, append-nil}
use Prim.Native.Nat.{ℕ, ◌≤◌}
use native.Mathlib.Omega.{arith}
use lib.Dec.{leb, eqb}
use lib.ListN.{length, drop, length-append, length-take}
use borrow.Author.Tests.{eqb-true, eqb-false, ltb-false}
use Rattle.rules.specs.Paper.{X}
use Rattle.rules.specs.declared.Refusal.TheVariants.{Store}
use Rattle.records.specs.Recordings.{Records, refusal}
use Rattle.records.proofs.Parts.{stands}
use Rattle.lines.specs.Lines.{Text, line_of}
use Rattle.pieces.specs.Limit.{seen_at, seen_from}
use Rattle.pieces.specs.Begun.{joined, allowed, inside, beyond, Few, landed, paused, holding}
use Rattle.pieces.specs.declared.Begun.{Begun}
use Rattle.pieces.specs.declared.How.{How}
use Rattle.pieces.specs.declared.How.TheVariants.{Full, Spent, Stopped}
use Rattle.pieces.proofs.SeenFrom.{every_seen}
use Rattle.transcript.specs.Transcript.{told}
use Rattle.transcript.specs.Feeding.{Stretch, stretch, after, fitting, feed_of, left}
use Rattle.transcript.specs.Claims.{Together}
use Rattle.transcript.proofs.Went.{onwards, went}
use Rattle.transcript.proofs.Left.{left-later, left_over}
use Rattle.pieces.proofs.Fronts.{front, one}
use Rattle.pieces.proofs.States.{paused-bytes, holding-bytes}
use Rattle.pieces.proofs.Tells.{tells_none, tells-store, tells_records, or_over, or_going, none_left}

module _ (b : Begun) (piece : List ℕ) (more : List ℕ) where
  -- what is left after a stretch
  after_that : Bool → Stretch → Text × List ℕ
  after_that last q = let k = landed b piece last q.at q.how in left k.begun (drop k.taken piece ++ more) q.store

  -- the bytes there are, at a place of those inside the limit
  lengths : (at : ℕ) → at ≤ length (inside b piece) → (at ≤ allowed b) × (at ≤ length (joined b piece)) × (at ≤ length (joined b (piece ++ more)))
  lengths at n =
      let i = length-take (allowed b) (joined b piece) in
      let j = ap (λ (s : List ℕ). length s) (one b piece more) ∙ length-append (joined b piece) more in
      (omega (arith, n, i), omega (arith, n, i), omega (arith, n, i, j))

  -- where no record is left
  after-spent : (last : Bool) → Few b → (last ≡ true → more ≡ []) → (at : ℕ) (l : List ℕ) → length l ≡ 100 → at ≤ length (inside b piece)
      → seen_at (beyond b piece) last (inside b piece) at ≡ Ok None → (text : Text)
      → after_that last (stretch text at Spent l) ≡ told (seen_from (beyond b (piece ++ more)) true (inside b (piece ++ more)) at) l
  unfolding after_that landed told
  after-spent true few final at l w n e text =
      let p : piece ++ more ≡ piece = rw (final refl, append-nil piece) in
      left_over _ _ l refl ∙ rw (p, every_seen (beyond b piece) true (inside b piece) at, e)
  after-spent false few final at l w n e text =
      let none = none_left (beyond b piece) false (inside b piece) at (stands (inside b piece) at) e in
      let short = ltb-false (allowed b) (length (joined b piece)) none.0 in
      let i = length-take (allowed b) (joined b piece) in
      let k = lengths at n in
      left-later b (piece ++ more) at (holding b piece at).begun (drop (length piece) piece ++ more) (omega (arith, k))
      (holding-bytes b piece at few k.1 (omega (arith, none.1, short, i)) more) k.0 k.2 l refl w

  -- by how the records were gone through
  by-how : (h : How) (last : Bool) → Few b → (last ≡ true → more ≡ []) → (at : ℕ) (l : List ℕ) → length l ≡ 100 → at ≤ length (inside b piece)
      → (h ≡ Spent → seen_at (beyond b piece) last (inside b piece) at ≡ Ok None) → (text : Text)
      → after_that last (stretch text at h l) ≡ onwards h (told (seen_from (beyond b (piece ++ more)) true (inside b (piece ++ more)) at) l) l
  unfolding after_that landed
  by-how Stopped last few final at l w n e text = left_over _ _ l refl
  by-how Full last few final at l w n e text =
      let k = lengths at n in
      left-later b (piece ++ more) at (paused b at).begun (drop (paused b at).taken piece ++ more) (omega (arith, k))
      (paused-bytes b piece at few k.1 more) k.0 k.2 l refl w
  by-how Spent last few final at l w n e text = after-spent last few final at l w n (e refl) text

  -- the records inside the limit
  of_records : (last : Bool) → Few b → (last ≡ true → more ≡ []) → (l : List ℕ) (room : ℕ) → b.over ≡ false → length l ≡ 100
      → let q = feed_of b piece last l room in
      let rest = after_that last q in
      (q.text ++ rest.0, rest.1) ≡ left b (piece ++ more) l
  of_records last few final l room o w =
      rw (tells_records b piece last l o w, tells_records b (piece ++ more) true l o w)
      (let q = fitting room (seen_from (beyond b piece) last (inside b piece) 0) 0 l in
      let g = went (beyond b piece) last (inside b piece) 0 l room in
      let t = g.together (beyond b (piece ++ more)) (inside b (piece ++ more)) (front b piece more last final) in
      rw (by-how q.how last few final q.at q.store (g.words ∙ w) (g.within (omega arith)) g.spent q.text) t)

  -- refused by 1
  of-store : (last : Bool) → (l : List ℕ) (room : ℕ) → b.over ≡ false → (length l ≡ 100 → ⊥)
      → let q = feed_of b piece last l room in
      let rest = after_that last q in
      (q.text ++ rest.0, rest.1) ≡ left b (piece ++ more) l
  unfolding after_that landed fitting told
  of-store last l room o w =
      rw (tells-store b piece last l o w, tells-store b (piece ++ more) true l o w)
      (stops-by (leb (length (line_of (X 1))) room) refl)
    where
      stops-by : (t : Bool) → leb (length (line_of (X 1))) room ≡ t
          → let q = cond t (after (line_of (X 1)) (stretch [] 0 Stopped l)) (stretch [] 0 Full l) in
          let rest = after_that last q in
          (q.text ++ rest.0, rest.1) ≡ told (refusal Store) l
      stops-by true e =
          let z : after_that last (stretch (line_of (X 1) ++ []) 0 Stopped l) ≡ ([], l) = left_over _ _ l refl in
          rw (z, append-nil (line_of (X 1)), append-nil (line_of (X 1)))
      stops-by false e =
          ap (λ (rs : Records). told rs l) (tells-store (paused b 0).begun (drop (paused b 0).taken piece ++ more) true l refl w)

  of-over : (last : Bool) → (l : List ℕ) (room : ℕ) → b.over ≡ true
      → let q = feed_of b piece last l room in
      let rest = after_that true q in
      (q.text ++ rest.0, rest.1) ≡ left b (piece ++ more) l
  unfolding after_that landed fitting
  of-over last l room o = rw (tells_none b piece last l o, left_over b (piece ++ more) l o) (left_over _ _ l refl)

  by-words : (last : Bool) → Few b → (last ≡ true → more ≡ []) → (l : List ℕ) (room : ℕ) → b.over ≡ false → (t : Bool) → eqb (length l) 100 ≡ t
      → let q = feed_of b piece last l room in
      let rest = after_that last q in
      (q.text ++ rest.0, rest.1) ≡ left b (piece ++ more) l
  by-words last few final l room o true e = of_records last few final l room o (eqb-true (length l) 100 e)
  by-words last few final l room o false e = of-store last l room o (eqb-false (length l) 100 e)

  by_over : (last : Bool) → Few b → (last ≡ true → more ≡ []) → (l : List ℕ) (room : ℕ) → (t : Bool) → b.over ≡ t
      → let q = feed_of b piece last l room in
      let rest = after_that (last || b.over) q in
      (q.text ++ rest.0, rest.1) ≡ left b (piece ++ more) l
  by_over last few final l room true o = rw (or_over last b.over o) (of-over last l room o)
  by_over last few final l room false o = rw (or_going last b.over o) (by-words last few final l room o (eqb (length l) 100) refl)

pub together : Together
unfolding after_that
together b piece more last l room few final = by_over b piece more last few final l room b.over refl
