-- What is ahead of a feed at a place, by what stands there; and how one turn of the loop goes on or ends.
use Rattle.std.proofs.Common.{Ok, Err, Some, None}
use Rattle.std.specs.declared.option.Option.{Option}
use mathlib.Core.Path.{◌≡◌, refl, ap, ◌∙◌}
use mathlib.Core.Bool.{Bool, true, false, cond}
use mathlib.Core.List.{List, []}
use Prim.Native.Nat.{ℕ, ◌+◌, ◌-◌, ◌≤◌}
use native.Mathlib.Omega.{arith}
use lib.ListN.{length}
use lib.Seq.{sets, length-sets}
use lib.Dec.{leb}
use borrow.Author.Tests.{leb-true, leb-false}
use Rattle.rules.specs.Paper.{X, number}
use Rattle.rules.specs.Step.{step}
use Rattle.rules.specs.declared.Event.{Event}
use Rattle.rules.specs.declared.Refusal.{Refusal}
use Rattle.records.specs.Recordings.{refusal}
use Rattle.records.specs.declared.Cursor.{Cursor}
use Rattle.pieces.specs.Limit.{seen_at}
use Rattle.pieces.specs.declared.How.TheVariants.{Full, Spent, Stopped}
use Rattle.pieces.proofs.SeenFrom.{every_seen}
use Rattle.lines.specs.Lines.{Text, line_of, placed}
use Rattle.lines.proofs.Output.{fits, unfit}
use Rattle.transcript.specs.Feeding.{Stretch, stretch, after, fitting}
use Rattle.recording.specs.Parts.{stepped, shown, taken, ahead, ended}
use Rattle.recording.specs.declared.Stepped.{Stepped}
use Rattle.recording.proofs.Reached.{Reached, write, finish}

abbrev Outcome : Type 0
Outcome = Option ℕ × List ℕ × List ℕ

-- the bytes inside the limit, whether there are others, and whether they are the last
module _ (beyond last : Bool) (r : List ℕ) (at : ℕ) (l : List ℕ) (room : ℕ) where
  ahead-end : seen_at beyond last r at ≡ Ok None → ahead beyond last r at l room ≡ stretch [] at Spent l
  unfolding fitting
  ahead-end e = rw (every_seen beyond last r at, e)

  ahead-refused : (x : Refusal) → seen_at beyond last r at ≡ Err x → ahead beyond last r at l room ≡ fitting room (refusal x) at l
  ahead-refused x e = rw (every_seen beyond last r at, e)

  ahead-event : (v : Event) (c : Cursor) → seen_at beyond last r at ≡ Ok (Some (v, c))
      → let line = line_of (step l v).0 in
      ahead beyond last r at l room
      ≡ cond (leb (length line) room) (after line (ahead beyond last r c.at (step l v).1 (room - length line))) (stretch [] at Full l)
  unfolding fitting
  ahead-event v c e = rw (every_seen beyond last r at, e)

module _ (whole : Stretch) (out₀ out : List ℕ) (n : ℕ) where
  -- a text that fits what is left, put at its place
  put-fits : (t : Text) → n ≤ length out → leb (length t) (length out - n) ≡ true → placed out n t ≡ (Some (length t), sets out n t)
  put-fits t w h = fits out n t (omega (arith, leb-true (length t) (length out - n) h))

  put-unfit : (t : Text) → n ≤ length out → leb (length t) (length out - n) ≡ false → placed out n t ≡ (None, out)
  put-unfit t w h = unfit out n t (omega (arith, leb-false (length t) (length out - n) h))

  -- the last line, by whether it fits
  stopping : (b : Bool) (k at : ℕ) (l : List ℕ) → let line = line_of (X k) in
      leb (length line) (length out - n) ≡ b → Reached whole out₀ out n (cond b (after line (stretch [] at Stopped l)) (stretch [] at Full l))
      → ((ended out at n line).0, l, (ended out at n line).1) ≡ shown whole out₀
  unfolding ended
  stopping true k at l h s =
      let line = line_of (X k) in
      let w : n + length line ≤ length out = omega (arith, leb-true (length line) (length out - n) h, s.within) in
      rw (put-fits line s.within h)
      (finish whole out₀ (sets out n line) (n + length line) at Stopped l (write out n line w whole out₀ (stretch [] at Stopped l) s))
  stopping false k at l h s = rw (put-unfit (line_of (X k)) s.within h) (finish whole out₀ out n at Full l s)

  pub stops : (x : Refusal) (at : ℕ) (l : List ℕ) → let line = line_of (X (number x)) in
      Reached whole out₀ out n (fitting (length out - n) (refusal x) at l)
      → (q : Stepped) (out' : List ℕ) → (q, out') ≡ ended out at n line → (q, l, out') ≡ shown whole out₀
  unfolding fitting
  stops x at l s q out' u =
      rw (ap (λ (y : Stepped × List ℕ). y.0) u, ap (λ (y : Stepped × List ℕ). y.1) u)
      (stopping (leb (length (line_of (X (number x)))) (length out - n)) (number x) at l refl s)

  -- an event, by whether its line fits: the line is written and the next record is ahead, or the step is at its end
  module _ (beyond last : Bool) (r : List ℕ) (at : ℕ) (l : List ℕ) (v : Event) (c : Cursor) (e : seen_at beyond last r at ≡ Ok (Some (v, c)))
      (s : Reached whole out₀ out n (ahead beyond last r at l (length out - n))) where
    pub goes_on : let line = line_of (step l v).0 in
        leb (length line) (length out - n) ≡ true
        → Reached whole out₀ (sets out n line) (n + length line) (ahead beyond last r c.at (step l v).1 (length (sets out n line) - (n + length line)))
    goes_on h =
        let line = line_of (step l v).0 in
        let w : n + length line ≤ length out = omega (arith, leb-true (length line) (length out - n) h, s.within) in
        let q : ahead beyond last r at l (length out - n) ≡ after line (ahead beyond last r c.at (step l v).1 (length out - n - length line)) =
        ahead-event beyond last r at l (length out - n) v c e ∙ rw h in
        let m : length out - n - length line ≡ length (sets out n line) - (n + length line) = omega (arith, length-sets out n line) in
        rw (← m) (write out n line w whole out₀ _ (rw q at s))

    pub waits : leb (length (line_of (step l v).0)) (length out - n) ≡ false
        → (stepped at Full n, l, out) ≡ shown whole out₀
    waits h =
        let q : ahead beyond last r at l (length out - n) ≡ stretch [] at Full l = ahead-event beyond last r at l (length out - n) v c e ∙ rw h in
        finish whole out₀ out n at Full l (rw q at s)

    -- how many bytes, the store and the output, by whether the line fits
    outcome : Bool → Outcome
    outcome b = cond b (Some (length (line_of (step l v).0)), (step l v).1, sets out n (line_of (step l v).0)) (None, l, out)

    fit : Bool
    fit = leb (length (line_of (step l v).0)) (length out - n)

    taken_is : (b : Bool) → fit ≡ b → taken l v out n ≡ outcome b
    unfolding taken outcome fit
    taken_is true h = rw (h, put-fits (line_of (step l v).0) s.within h)
    taken_is false h = rw h

    taking : (b : Bool) (x : Outcome) (k : ℕ) → fit ≡ b → x ≡ outcome b → x.0 ≡ Some k
        → Reached whole out₀ x.2 (n + k) (ahead beyond last r c.at x.1 (length x.2 - (n + k)))
    unfolding outcome fit
    taking true x k h q z =
        let m : length (line_of (step l v).0) ≡ k = let y = ap (λ (y : Outcome). y.0) q in cc in
        rw (q, ← m) (goes_on h)
    taking false x k h q z = let y = ap (λ (y : Outcome). y.0) q in cc

    leaving : (b : Bool) (x : Outcome) → fit ≡ b → x ≡ outcome b → x.0 ≡ None
        → (stepped at Full n, x.1, x.2) ≡ shown whole out₀
    unfolding outcome fit
    leaving true x h q z = let y = ap (λ (y : Outcome). y.0) q in cc
    leaving false x h q z = rw q (waits h)

    pub takes : (put : Option ℕ) (k : ℕ) (l' out' : List ℕ) → (put, l', out') ≡ taken l v out n → put ≡ Some k
        → Reached whole out₀ out' (n + k) (ahead beyond last r c.at l' (length out' - (n + k)))
    takes put k l' out' q z = taking fit (put, l', out') k refl (q ∙ taken_is fit refl) z

    pub leaves : (put : Option ℕ) (l' out' : List ℕ) → (put, l', out') ≡ taken l v out n → put ≡ None
        → (stepped at Full n, l', out') ≡ shown whole out₀
    leaves put l' out' q z = leaving fit (put, l', out') refl (q ∙ taken_is fit refl) z

  -- what the code finds at a place: no record, or a refusal
  module _ (beyond last : Bool) (r : List ℕ) (at : ℕ) (l : List ℕ) (s : Reached whole out₀ out n (ahead beyond last r at l (length out - n))) where
    pub ends : seen_at beyond last r at ≡ Ok None → (stepped at Spent n, l, out) ≡ shown whole out₀
    ends e = finish whole out₀ out n at Spent l (rw (ahead-end beyond last r at l (length out - n) e) at s)

    pub refused : (x : Refusal) → seen_at beyond last r at ≡ Err x
        → (q : Stepped) (out' : List ℕ) → (q, out') ≡ ended out at n (line_of (X (number x))) → (q, l, out') ≡ shown whole out₀
    refused x e = stops x at l (rw (ahead-refused beyond last r at l (length out - n) x e) at s)
