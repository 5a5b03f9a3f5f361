-- What a caller has from the promise of `feed`: the text lies within the output, no more is taken than was given, and with room for
-- any line each feed brings the end nearer.
use mathlib.Core.Path.{◌≡◌, ap}
use mathlib.Core.Bool.{Bool, false}
use mathlib.Core.List.{List, ◌++◌}
use Prim.Native.Nat.{ℕ, ◌<◌, ◌≤◌}
use native.Mathlib.Omega.{arith}
use lib.ListN.{length, drop, length-append}
use Rattle.pieces.specs.Begun.{Offers}
use Rattle.pieces.specs.declared.Begun.{Begun}
use Rattle.pieces.proofs.Landing.{Sound, to_go, landed-sound, landed-nearer}
use Rattle.pieces.proofs.Tells.{or_going}
use Rattle.transcript.specs.Feeding.{feed_of, reached_by, fed}
use Rattle.transcript.specs.Claims.{Roomy}
use Rattle.transcript.specs.declared.Fed.{Fed}
use Rattle.transcript.proofs.Reaching.{going, taken-within}

abbrev Made : Type 0
Made = Fed × List ℕ × List ℕ

module _ (l : List ℕ) (b : Begun) (piece : List ℕ) (last : Bool) (out : List ℕ) (x : Made) (e : x ≡ fed l b piece last out) where
  pub within : length x.2 ≡ length out → x.0.written ≤ length out
  unfolding fed
  within h =
      let q = feed_of b piece last l (length out) in
      let n : x.0.written ≡ length q.text = ap (λ (y : Made). y.0.written) e in
      let w : length x.2 ≡ length (q.text ++ drop (length q.text) out) = ap (λ (y : Made). length y.2) e in
      omega (arith, n, w, length-append q.text (drop (length q.text) out))

  reached : x.0.reached ≡ reached_by b piece last (feed_of b piece last l (length out))
  unfolding fed
  reached = ap (λ (y : Made). y.0.reached) e

  pub taken : x.0.reached.taken ≤ length piece
  taken = rw reached (taken-within b piece last l (length out))

  pub sound : Sound b → b.over ≡ false → Sound x.0.reached.begun
  sound s o =
      let q = feed_of b piece last l (length out) in
      let g = going b piece last l (length out) o in
      rw (reached, or_going last b.over o) (landed-sound b piece last q.at q.how s o g.within g.spent)

  pub nearer : Sound b → b.over ≡ false → Offers piece last → Roomy (length out) → to_go x.0.reached.begun < to_go b
  nearer s o offers roomy =
      let q = feed_of b piece last l (length out) in
      let g = going b piece last l (length out) o in
      rw (reached, or_going last b.over o)
      (landed-nearer b piece last q.at q.how s o g.within g.spent offers (g.full roomy))
