-- How far a feed takes its piece, and what it leaves: by the tests before the records, and by how they were gone through.
use Rattle.std.proofs.Common.{Ok, None}
use mathlib.Core.Path.{◌≡◌, refl}
use mathlib.Core.Bool.{Bool, true, false, cond, ◌||◌}
use mathlib.Core.List.{List, []}
use Prim.Native.Nat.{ℕ, ◌<◌, ◌≤◌}
use native.Mathlib.Omega.{arith}
use lib.Dec.{leb, eqb}
use lib.ListN.{length, length-append, length-take}
use borrow.Author.Tests.{eqb-true, eqb-false, leb-false}
use Rattle.rules.specs.Paper.{X}
use Rattle.lines.specs.Lines.{line_of}
use Rattle.lines.proofs.Lengths.{most}
use Rattle.pieces.specs.Limit.{seen_at}
use Rattle.pieces.specs.Held.{bytes_of}
use Rattle.pieces.specs.Begun.{joined, allowed, inside, beyond, Few, landed}
use Rattle.pieces.specs.declared.Begun.{Begun}
use Rattle.pieces.specs.declared.How.{How}
use Rattle.pieces.specs.declared.How.TheVariants.{Full, Spent, Stopped}
use Rattle.transcript.specs.Feeding.{Stretch, stretch, after, fitting, feed_of, reached_by}
use Rattle.transcript.specs.Claims.{Roomy}
use Rattle.transcript.proofs.Went.{went}
use Rattle.pieces.proofs.States.{few-landed}
use Rattle.pieces.proofs.Tells.{tells_none, tells-store, tells_records, or_over}

pub few-after : (b : Begun) (piece : List ℕ) (last : Bool) (q : Stretch) → Few (reached_by b piece last q).begun
few-after b piece last q = few-landed b piece (last || b.over) q.at q.how

-- what a feed did, where the run was not over and does not end
pub record Going (b : Begun) (piece : List ℕ) (last : Bool) (room : ℕ) (q : Stretch) : Type 0 where
  pub within : q.at ≤ length (inside b piece)
  pub full : Roomy room → q.how ≡ Full → 0 < q.at
  pub spent : q.how ≡ Spent → seen_at (beyond b piece) last (inside b piece) q.at ≡ Ok None

module _ (b : Begun) (piece : List ℕ) (last : Bool) (l : List ℕ) (room : ℕ) where
  store_line : (t : Bool) → leb (length (line_of (X 1))) room ≡ t
      → Going b piece last room (cond t (after (line_of (X 1)) (stretch [] 0 Stopped l)) (stretch [] 0 Full l))
  store_line true e =
      record {
        within = omega arith;
        full = λ r h. cc;
        spent = λ h. cc;
      }
  store_line false e =
      record {
        within = omega arith;
        full = λ r h. absurd (omega (arith, r, most (X 1), leb-false (length (line_of (X 1))) room e));
        spent = λ h. cc;
      }

  by-words : b.over ≡ false → (t : Bool) → eqb (length l) 100 ≡ t → Going b piece last room (feed_of b piece last l room)
  unfolding fitting
  by-words o true e =
      rw (tells_records b piece last l o (eqb-true (length l) 100 e))
      (let w = went (beyond b piece) last (inside b piece) 0 l room in
      record { within = w.within (omega arith); full = w.takes; spent = w.spent })
  by-words o false e = rw (tells-store b piece last l o (eqb-false (length l) 100 e)) (store_line (leb (length (line_of (X 1))) room) refl)

  pub going : b.over ≡ false → Going b piece last room (feed_of b piece last l room)
  going o = by-words o (eqb (length l) 100) refl

-- a run that is over stays so, and takes all it is given
pub over-stays : (b : Begun) (piece : List ℕ) (last : Bool) (l : List ℕ) (room : ℕ) → b.over ≡ true
    → let k = reached_by b piece last (feed_of b piece last l room) in (k.begun.over ≡ true) × (k.taken ≡ length piece)
unfolding landed fitting
over-stays b piece last l room o = rw (tells_none b piece last l o, or_over last b.over o) (refl, refl)

-- how much is taken
module _ (b : Begun) (piece : List ℕ) where
  by-how : (last : Bool) (at : ℕ) (h : How) → at ≤ length (inside b piece) → (landed b piece last at h).taken ≤ length piece
  unfolding landed
  by-how last at Full n =
      omega (arith, n, length-take (allowed b) (joined b piece), length-append (bytes_of b.held) piece)
  by-how true at Spent n = omega arith
  by-how false at Spent n = omega arith
  by-how last at Stopped n = omega arith

  by_over : (last : Bool) (l : List ℕ) (room : ℕ) (t : Bool) → b.over ≡ t → (reached_by b piece last (feed_of b piece last l room)).taken ≤ length piece
  by_over last l room true o = omega (arith, (over-stays b piece last l room o).1)
  by_over last l room false o =
      let q = feed_of b piece last l room in
      by-how (last || b.over) q.at q.how (going b piece last l room o).within

  pub taken-within : (last : Bool) (l : List ℕ) (room : ℕ) → (reached_by b piece last (feed_of b piece last l room)).taken ≤ length piece
  taken-within last l room = by_over last l room b.over refl
