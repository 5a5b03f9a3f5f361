-- A feed that does not end the run uses bytes up and counts them, since its landing does.
use mathlib.Core.Path.{◌≡◌, refl, sym, ◌∙◌}
use mathlib.Core.Bool.{Bool, true, false, false≢true}
use mathlib.Core.List.{List}
use Prim.Native.Nat.{ℕ}
use Rattle.pieces.specs.declared.Begun.{Begun}
use Rattle.transcript.specs.Feeding.{feed_of, reached_by}
use Rattle.transcript.specs.Claims.{Progress, Counted}
use Rattle.pieces.proofs.Landing.{uses, counts}
use Rattle.pieces.proofs.Tells.{or_going}
use Rattle.transcript.proofs.Reaching.{going, over-stays}

module _ (b : Begun) (piece : List ℕ) (last : Bool) (l : List ℕ) (room : ℕ) where
  -- the run was not over, or it would be so now
  was_going : (t : Bool) → b.over ≡ t → (reached_by b piece last (feed_of b piece last l room)).begun.over ≡ false → b.over ≡ false
  was_going true o e = absurd (false≢true (sym e ∙ (over-stays b piece last l room o).0))
  was_going false o e = o

pub progress : Progress
progress b piece last l room few offers roomy e =
    let o = was_going b piece last l room b.over refl e in
    let q = feed_of b piece last l room in
    let g = going b piece last l room o in
    rw (or_going last b.over o)
    (uses b piece few q.how last q.at offers g.within (g.full roomy) g.spent (rw (or_going last b.over o) at e))

pub counted : Counted
counted b piece last l room few e m =
    let o = was_going b piece last l room b.over refl e in
    let q = feed_of b piece last l room in
    let g = going b piece last l room o in
    rw (or_going last b.over o)
    (counts b piece few q.how last q.at g.within g.spent m (rw (or_going last b.over o) at e))
