-- Where all that is still to be told fits, one call tells it: no line is left out, and so the run is over.
use mathlib.Core.Path.{◌≡◌, refl, ap}
use mathlib.Core.Bool.{true}
use mathlib.Core.List.{List, ◌++◌, append-nil}
use Prim.Native.Nat.{ℕ, ◌-◌, ◌≤◌}
use native.Mathlib.Omega.{arith}
use lib.ListN.{length, length-append}
use borrow.Author.Tests.{le-leb}
use Rattle.rules.specs.Paper.{X, number}
use Rattle.rules.specs.Step.{step}
use Rattle.records.specs.Recordings.{Records, event, end, refusal}
use Rattle.lines.specs.Lines.{Text, line_of}
use Rattle.pieces.specs.Begun.{to_tell, landed}
use Rattle.pieces.specs.declared.Begun.{Begun}
use Rattle.pieces.specs.declared.How.{How}
use Rattle.pieces.specs.declared.How.TheVariants.{Full, Spent, Stopped}
use Rattle.transcript.specs.Transcript.{told}
use Rattle.transcript.specs.Feeding.{Stretch, fitting, feed_of}
use Rattle.transcript.specs.Claims.{AtOnce}

pub record Whole (rs : Records) (l : List ℕ) (q : Stretch) : Type 0 where
  pub text : q.text ≡ (told rs l).0
  pub store : q.store ≡ (told rs l).1
  pub room-left : q.how ≡ Full → ⊥

pub all_fit : (rs : Records) (room at : ℕ) (l : List ℕ) → length (told rs l).0 ≤ room → Whole rs l (fitting room rs at l)
unfolding fitting told
all_fit end room at l h =
    record { text = refl; store = refl; room-left = λ e. cc }
all_fit (refusal r) room at l h =
    rw (le-leb (length (line_of (X (number r)))) room h)
    (record { text = append-nil (line_of (X (number r))); store = refl; room-left = λ e. cc })
all_fit (event v next rest) room at l h =
    let s = step l v in
    let line = line_of s.0 in
    let n = length-append line (told rest s.1).0 in
    let w = all_fit rest (room - length line) next s.1 (omega (arith, n, h)) in
    rw (le-leb (length line) room (omega (arith, n, h)))
    (record { text = ap (λ (t : Text). line ++ t) w.text; store = w.store; room-left = w.room-left })

-- not for want of room: over
over : (b : Begun) (r : List ℕ) (at : ℕ) (h : How) → (h ≡ Full → ⊥) → (landed b r true at h).begun.over ≡ true
unfolding landed
over b r at Full n = absurd (n refl)
over b r at Spent n = refl
over b r at Stopped n = refl

pub at_once : AtOnce
at_once b r l room h =
    let q = feed_of b r true l room in
    let w = all_fit (to_tell b r true l) room 0 l h in
    (rw (w.text, w.store), over b r q.at q.how w.room-left)
