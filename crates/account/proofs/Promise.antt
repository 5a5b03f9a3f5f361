-- What a caller has from the promise of `feed`: each piece brings the end nearer.
use Rattle.std.proofs.Common.{Ok, Err, None}
use Rattle.account.specs.Runs.{Ending}
use Rattle.std.proofs.Common.{Ok, None}
use mathlib.Core.Path.{◌≡◌, refl}
use mathlib.Core.Bool.{Bool, true, false}
use mathlib.Core.List.{List}
use Prim.Native.Nat.{ℕ, ◌<◌, ◌≤◌}
use native.Mathlib.Omega.{arith}
use lib.Dec.{eqb}
use lib.ListN.{length}
use borrow.Author.Tests.{eqb-true, eqb-false}
use Rattle.pieces.specs.Limit.{seen_at}
use Rattle.pieces.specs.Begun.{inside, beyond, to_tell, Offers, landed}
use Rattle.pieces.specs.declared.How.TheVariants.{Full, Spent}
use Rattle.pieces.proofs.Landing.{Sound, to_go, landed-sound, landed-nearer}
use Rattle.pieces.proofs.Tells.{tells-store, tells_records, or_going}
use Rattle.account.specs.declared.Survey.{Survey}
use Rattle.account.specs.Surveys.{trail, how_by, surveyed}
use Rattle.account.proofs.Cuts.{Trail, trailed}

-- a piece is never left for want of room
never-full : (e : Ending) → how_by e ≡ Full → ⊥
never-full (Ok o) h = cc
never-full (Err r) h = cc

all_read : (e : Ending) → how_by e ≡ Spent → e ≡ Ok tt
all_read (Ok o) h = refl
all_read (Err r) h = cc

-- the trail of a piece, where the run is not over
pub record Went (v : Survey) (piece : List ℕ) (last : Bool) (t : Trail) : Type 0 where
  pub within : t.0.at ≤ length (inside v.begun piece)
  pub spent : t.0.ending ≡ Ok tt → seen_at (beyond v.begun piece) last (inside v.begun piece) t.0.at ≡ Ok None

module _ (l : List ℕ) (v : Survey) (piece : List ℕ) (last : Bool) (o : v.begun.over ≡ false) where
  by-words : (w : Bool) → eqb (length l) 100 ≡ w → Went v piece last (trail v.begun.at (to_tell v.begun piece last l) 0 v.tally l)
  unfolding trail
  by-words true e =
      rw (tells_records v.begun piece last l o (eqb-true (length l) 100 e))
      (let t = trailed (beyond v.begun piece) last (inside v.begun piece) v.begun.at 0 v.tally l in
      record { within = t.within (omega arith); spent = t.spent })
  by-words false e =
      rw (tells-store v.begun piece last l o (eqb-false (length l) 100 e))
      (record { within = omega arith; spent = λ h. cc })

  went : Went v piece last (trail v.begun.at (to_tell v.begun piece last l) 0 v.tally l)
  went = by-words (eqb (length l) 100) refl

module _ (l : List ℕ) (v : Survey) (piece : List ℕ) (last : Bool) (x : Survey × List ℕ) (e : x ≡ surveyed l v piece last) where
  reached : v.begun.over ≡ false
      → let t = trail v.begun.at (to_tell v.begun piece last l) 0 v.tally l in
      x.0.begun ≡ (landed v.begun piece last t.0.at (how_by t.0.ending)).begun
  unfolding surveyed
  reached o = rw (e, or_going last v.begun.over o)

  pub sound : Sound v.begun → v.begun.over ≡ false → Sound x.0.begun
  sound s o =
      let t = trail v.begun.at (to_tell v.begun piece last l) 0 v.tally l in
      let g = went l v piece last o in
      rw (reached o)
      (landed-sound v.begun piece last t.0.at (how_by t.0.ending) s o g.within (λ h. g.spent (all_read t.0.ending h)))

  pub nearer : Sound v.begun → v.begun.over ≡ false → Offers piece last → to_go x.0.begun < to_go v.begun
  nearer s o offers =
      let t = trail v.begun.at (to_tell v.begun piece last l) 0 v.tally l in
      let g = went l v piece last o in
      rw (reached o)
      (landed-nearer v.begun piece last t.0.at (how_by t.0.ending) s o g.within (λ h. g.spent (all_read t.0.ending h)) offers
      (λ h. absurd (never-full t.0.ending h)))
