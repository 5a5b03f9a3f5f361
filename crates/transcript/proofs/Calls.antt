-- Calls one after the other: by induction over them, what was written and what is left stay the uncut recording's; and enough
-- calls end the run, since each uses bytes up.
use mathlib.Core.Path.{◌≡◌, refl, sym, ap, ◌∙◌}
use mathlib.Core.Bool.{Bool, true, false, ◌&&◌}
use mathlib.Core.List.{List, [], ◌∷◌, ◌++◌, append_assoc, append-nil}
use Prim.Native.Nat.{ℕ, ◌+◌, ◌*◌, ◌<◌, ◌≤◌}
use native.Mathlib.Omega.{arith}
use lib.Dec.{leb, eqb}
use lib.ListN.{length, take, drop, length-drop, length-take, take-append-drop, drop_of_length-le}
use lib.Seq.{drop-append-le}
use borrow.Author.Tests.{leb-true, leb-false}
use Rattle.lines.specs.Lines.{Text}
use Rattle.pieces.specs.Limit.{records_of}
use Rattle.pieces.specs.Held.{held_of}
use Rattle.pieces.specs.Begun.{fresh, to_tell, Few, held_count, Offers}
use Rattle.pieces.specs.declared.Begun.{Begun}
use Rattle.pieces.specs.declared.Reached.{Reached}
use Rattle.transcript.specs.Transcript.{told, transcript}
use Rattle.transcript.specs.Feeding.{Stretch, feed_of, reached_by, left}
use Rattle.transcript.specs.Claims.{Call, last_of, calls_of, AnyCut, Uncut, Able, AllAble, Enough}
use Rattle.pieces.proofs.Landing.{few-fresh, none-held}
use Rattle.transcript.proofs.Together.{together}
use Rattle.transcript.proofs.Left.{left_over}
use Rattle.transcript.proofs.Reaching.{few-after, over-stays, taken-within}
use Rattle.transcript.proofs.Progress.{progress}

-- before the first byte all is left
by-words : (t : Bool) (r l : List ℕ) → eqb (length l) 100 ≡ t → left fresh r l ≡ transcript r l
unfolding to_tell transcript records_of held_of told
by-words true r l e = rw e
by-words false r l e = rw e

pub at_first : (r l : List ℕ) → left fresh r l ≡ transcript r l
at_first r l = by-words (eqb (length l) 100) r l refl

-- a call says that its bytes are the last only where they are
no_more : (k : Call) (r : List ℕ) → last_of k r ≡ true → drop k.offer r ≡ []
no_more k r e = by k.last (leb (length r) k.offer) refl e
  where
    by : (x y : Bool) → leb (length r) k.offer ≡ y → (x && y) ≡ true → drop k.offer r ≡ []
    by true true h e = drop_of_length-le r {i = k.offer} (leb-true (length r) k.offer h)
    by true false h e = cc
    by false y h e = cc

-- what a call does not take, and what it does not offer, is what is left of the bytes
not_taken : (n m : ℕ) (r : List ℕ) → n ≤ length (take m r) → drop n (take m r) ++ drop m r ≡ drop n r
not_taken n m r h = sym (drop-append-le n (take m r) (drop m r) h) ∙ ap (drop n) (take-append-drop m r)

-- a text, and then what the rest comes to
pub joining : (a c : Text) (d e : Text × List ℕ) → (c ++ d.0, d.1) ≡ e → ◌≡◌ {A = Text × List ℕ} (a ++ c ++ d.0, d.1) (a ++ e.0, e.1)
joining a c d e h = rw (append_assoc a c d.0) (ap (λ (y : Text × List ℕ). (a ++ y.0, y.1)) h)

pub any_cut_lem : (ks : List Call) (b : Begun) (r l : List ℕ) → Few b
    → let q = calls_of ks b r l in
    let rest = left q.begun q.rest q.store in
    (q.text ++ rest.0, rest.1) ≡ left b r l
unfolding calls_of
any_cut_lem [] b r l few = refl
any_cut_lem (k ∷ ks) b r l few =
    let piece = take k.offer r in
    let more = drop k.offer r in
    let last = last_of k r in
    let q = feed_of b piece last l k.room in
    let to = reached_by b piece last q in
    let t = together b piece more last l k.room few (no_more k r) in
    let n = not_taken to.taken k.offer r (taken-within b piece last l k.room) in
    let next = any_cut_lem ks to.begun (drop to.taken r) q.store (few-after b piece last q) in
    let rest = left to.begun (drop to.taken r) q.store in
    let whole : (q.text ++ rest.0, rest.1) ≡ left b r l =
    rw (← n) (t ∙ ap (λ (s : List ℕ). left b s l) (take-append-drop k.offer r)) in
    let end = calls_of ks to.begun (drop to.taken r) q.store in
    joining q.text end.text (left end.begun end.rest end.store) rest next ∙ whole

pub any_cut : AnyCut
any_cut ks r l = any_cut_lem ks fresh r l few-fresh ∙ at_first r l

pub uncut : Uncut
uncut ks r l o =
    let q = calls_of ks fresh r l in
    let t = any_cut ks r l in
    let e = left_over q.begun q.rest q.store o in
    sym (rw (e, append-nil q.text) refl) ∙ t

-- once over, a run stays so
stays-over : (ks : List Call) (b : Begun) (r l : List ℕ) → b.over ≡ true → (calls_of ks b r l).begun.over ≡ true
unfolding calls_of
stays-over [] b r l o = o
stays-over (k ∷ ks) b r l o = stays-over ks _ _ _ (over-stays b (take k.offer r) (last_of k r) l k.room o).0

-- an able call offers a byte, or says that no more will come
offers : (k : Call) (r : List ℕ) → Able k → Offers (take k.offer r) (last_of k r)
offers k r a = by (leb (length r) k.offer) refl
  where
    by : (t : Bool) → leb (length r) k.offer ≡ t → Offers (take k.offer r) (k.last && leb (length r) k.offer)
    by true h = rw (a.tells, h) tt
    by false h = rw (a.tells, h) (omega (arith, leb-false (length r) k.offer h, a.some, length-take k.offer r))

-- each call leaves fewer bytes, those still to come counted twice
module _ (k : Call) (ks : List Call) (able : Able k)
    (next : (b : Begun) (r l : List ℕ) → Few b → 2 * length r + held_count b < length ks → (calls_of ks b r l).begun.over ≡ true) where
  one_call : (b : Begun) (r l : List ℕ) → Few b → 2 * length r + held_count b < 1 + length ks → (calls_of (k ∷ ks) b r l).begun.over ≡ true
  unfolding calls_of
  one_call b r l few h = by to.begun.over refl
    where
      piece : List ℕ
      piece = take k.offer r

      q : Stretch
      q = feed_of b piece (last_of k r) l k.room

      to : Reached
      to = reached_by b piece (last_of k r) q

      by : (t : Bool) → to.begun.over ≡ t → (calls_of ks to.begun (drop to.taken r) q.store).begun.over ≡ true
      by true o = stays-over ks to.begun (drop to.taken r) q.store o
      by false o =
          let p = progress b piece (last_of k r) l k.room few (offers k r able) able.roomy o in
          let w = taken-within b piece (last_of k r) l k.room in
          let n = length-take k.offer r in
          let d = length-drop to.taken r in
          next to.begun (drop to.taken r) q.store (few-after b piece (last_of k r) q) (omega (arith, p, w, n, d, h))

ends : (ks : List Call) → AllAble ks → (b : Begun) (r l : List ℕ) → Few b → 2 * length r + held_count b < length ks → (calls_of ks b r l).begun.over ≡ true
ends [] a b r l few h = absurd (omega arith)
ends (k ∷ ks) a b r l few h = one_call k ks a.0 (ends ks a.1) b r l few (omega (arith, h))

pub enough : Enough
enough ks r l a h = ends ks a fresh r l few-fresh (omega (arith, none-held, h))
