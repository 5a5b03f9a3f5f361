-- A piece's part of the audit, by the tests that come before the records: over, 1, or the records inside the limit.
use Rattle.std.proofs.Common.{Ok}
use Rattle.account.specs.Runs.{Ending}
use mathlib.Core.Path.{◌≡◌, ap}
use mathlib.Core.Bool.{Bool, true, false, cond}
use mathlib.Core.List.{List}
use Prim.Native.Nat.{ℕ}
use Rattle.pieces.specs.Begun.{judged, to_tell, landed}
use Rattle.pieces.specs.declared.Begun.{Begun}
use Rattle.pieces.specs.declared.Reached.{Reached}
use Rattle.pieces.specs.declared.How.{How}
use Rattle.pieces.specs.declared.How.TheVariants.{Spent}
use Rattle.pieces.proofs.Tells.{tells_none, or_over, or_going}
use Rattle.account.specs.declared.Course.{Course}
use Rattle.account.specs.declared.Survey.{Survey}
use Rattle.account.specs.Surveys.{trail, how_by, surveyed}

tells-going : (b : Begun) (piece : List ℕ) (last : Bool) (l : List ℕ) → b.over ≡ false → to_tell b piece last l ≡ judged b piece last l
unfolding to_tell
tells-going b piece last l o = rw o

module _ (l : List ℕ) (v : Survey) (piece : List ℕ) (last : Bool) where
  pub when_over : v.begun.over ≡ true → (r : Reached) → r ≡ landed v.begun piece true 0 Spent
      → (record { begun = r.begun; tally = v.tally; ending = v.ending }, l) ≡ surveyed l v piece last
  unfolding surveyed trail
  when_over h r e =
      rw (e, tells_none v.begun piece last l h, or_over last v.begun.over h)
      (ap (λ (x : Ending). (record { begun = (landed v.begun piece true 0 Spent).begun; tally = v.tally; ending = x }, l)) (kept-ending h))
    where
      kept-ending : v.begun.over ≡ true → v.ending ≡ cond v.begun.over v.ending (Ok tt)
      kept-ending k = rw k

  pub when_going : v.begun.over ≡ false → (c : Course) (l' : List ℕ)
      → (c, l') ≡ trail v.begun.at (judged v.begun piece last l) 0 v.tally l
      → (how : How) → how ≡ how_by c.ending → (r : Reached) → r ≡ landed v.begun piece last c.at how
      → (record { begun = r.begun; tally = c.tally; ending = c.ending }, l') ≡ surveyed l v piece last
  unfolding surveyed
  when_going h c l' t how k r e =
      let shape : Course × List ℕ → Survey × List ℕ =
      λ y. (
        record { begun = (landed v.begun piece last y.0.at (how_by y.0.ending)).begun; tally = y.0.tally; ending = y.0.ending },
        y.1,
      ) in
      rw (e, k, or_going last v.begun.over h, tells h, ended h) (ap shape t)
    where
      tells : v.begun.over ≡ false → to_tell v.begun piece last l ≡ judged v.begun piece last l
      tells o = tells-going v.begun piece last l o

      ended : v.begun.over ≡ false → (x y : Ending) → cond v.begun.over x y ≡ y
      ended o x y = rw o
