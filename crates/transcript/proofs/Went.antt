-- How the records are gone through while their lines fit: by induction over what is seen, one line at a time.
use Rattle.std.proofs.Common.{Ok, Err, Some, None}
use mathlib.Core.Path.{◌≡◌, refl, ◌∙◌}
use mathlib.Core.Bool.{Bool, true, false, cond}
use mathlib.Core.List.{List, [], ◌++◌, append_assoc, append-nil}
use Prim.Native.Nat.{ℕ, ◌-◌, ◌<◌, ◌≤◌}
use native.Mathlib.Omega.{arith}
use lib.Dec.{leb}
use lib.ListN.{length}
use borrow.Author.Tests.{leb-false}
use Rattle.rules.specs.Paper.{X, number}
use Rattle.rules.specs.Step.{step}
use Rattle.rules.proofs.Length.{length-stays}
use Rattle.rules.specs.declared.Event.{Event}
use Rattle.rules.specs.declared.Refusal.{Refusal}
use Rattle.records.specs.Recordings.{event, end, refusal}
use Rattle.records.specs.declared.Cursor.{Cursor}
use Rattle.lines.specs.Lines.{Text, line_of, longest}
use Rattle.lines.proofs.Lengths.{most}
use Rattle.pieces.specs.Limit.{seen_at, seen_from}
use Rattle.pieces.specs.declared.How.{How}
use Rattle.pieces.specs.declared.How.TheVariants.{Full, Spent, Stopped}
use Rattle.pieces.proofs.Fronts.{Front}
use Rattle.pieces.proofs.SeenFrom.{every_seen, seen-advances, by-seen}
use Rattle.transcript.specs.Transcript.{told}
use Rattle.transcript.specs.Feeding.{Stretch, stretch, after, fitting}
use Rattle.transcript.specs.Claims.{Roomy}

-- what is told of more bytes from where a stretch ended: nothing after a stop
abbrev pub onwards : How → Text × List ℕ → List ℕ → Text × List ℕ
onwards Full t l = t
onwards Spent t l = t
onwards Stopped t l = ([], l)

module _ (beyond last : Bool) (s : List ℕ) where
  -- a stretch from a place on
  pub record Went (at : ℕ) (l : List ℕ) (room : ℕ) (q : Stretch) : Type 0 where
    pub on : at ≤ q.at
    pub within : at ≤ length s → q.at ≤ length s
    pub words : length q.store ≡ length l
    pub spent : q.how ≡ Spent → seen_at beyond last s q.at ≡ Ok None
    pub takes : Roomy room → q.how ≡ Full → at < q.at
    pub together : (beyond' : Bool) (s' : List ℕ) → Front beyond last s beyond' s'
        → let rest = onwards q.how (told (seen_from beyond' true s' q.at) q.store) q.store in
        (q.text ++ rest.0, rest.1) ≡ told (seen_from beyond' true s' at) l

  not_spent : {A : Type 0} → Full ≡ Spent → A
  not_spent h = cc

  -- where a line does not fit
  waits : (at : ℕ) (l : List ℕ) (room : ℕ) (line : Text) → leb (length line) room ≡ false → length line ≤ longest → Went at l room (stretch [] at Full l)
  waits at l room line h m =
      record {
        on = omega arith;
        within = λ k. k;
        words = refl;
        spent = not_spent;
        takes = λ k e. absurd (omega (arith, leb-false (length line) room h, m, k));
        together = λ beyond' s' f. refl;
      }

  at-end : (at : ℕ) → seen_at beyond last s at ≡ Ok None → (l : List ℕ) (room : ℕ) → Went at l room (fitting room end at l)
  unfolding fitting
  at-end at e l room =
      record {
        on = omega arith;
        within = λ k. k;
        words = refl;
        spent = λ h. e;
        takes = λ k h. cc;
        together = λ beyond' s' f. refl;
      }

  -- the last line
  stops : (b : Bool) (at : ℕ) (r : Refusal) → seen_at beyond last s at ≡ Err r → (l : List ℕ) (room : ℕ)
      → leb (length (line_of (X (number r)))) room ≡ b
      → Went at l room (cond b (after (line_of (X (number r))) (stretch [] at Stopped l)) (stretch [] at Full l))
  unfolding told
  stops true at r e l room h =
      record {
        on = omega arith;
        within = λ k. k;
        words = refl;
        spent = λ k. cc;
        takes = λ k m. cc;
        together = λ beyond' s' f. rw (every_seen beyond' true s' at, f.refused at r e, append-nil (line_of (X (number r))), append-nil (line_of (X (number r))));
      }
  stops false at r e l room h = waits at l room (line_of (X (number r))) h (most (X (number r)))

  at-refused : (at : ℕ) (r : Refusal) → seen_at beyond last s at ≡ Err r → (l : List ℕ) (room : ℕ) → Went at l room (fitting room (refusal r) at l)
  unfolding fitting
  at-refused at r e l room = stops (leb (length (line_of (X (number r)))) room) at r e l room refl

  -- an event and what comes after it
  goes : (b : Bool) (at : ℕ) (v : Event) (c : Cursor) → seen_at beyond last s at ≡ Ok (Some (v, c)) → (l : List ℕ) (room : ℕ)
      → leb (length (line_of (step l v).0)) room ≡ b
      → (room' : ℕ) (q : Stretch) → Went c.at (step l v).1 room' q
      → Went at l room (cond b (after (line_of (step l v).0) q) (stretch [] at Full l))
  unfolding told
  goes true at v c e l room h room' q w =
      let a = seen-advances beyond last s at v c e in
      record {
        on = omega (arith, a, w.on);
        within = λ k. w.within a.1;
        words = w.words ∙ length-stays l v;
        spent = w.spent;
        takes = λ k m. omega (arith, a, w.on);
        together = λ beyond' s' f.
            let line = line_of (step l v).0 in
            let rest = onwards q.how (told (seen_from beyond' true s' q.at) q.store) q.store in
            let t = w.together beyond' s' f in
            rw (every_seen beyond' true s' at, f.whole at v c e, ← t, append_assoc line q.text rest.0);
      }
  goes false at v c e l room h room' q w = waits at l room (line_of (step l v).0) h (most (step l v).0)

  at-whole : (at : ℕ) (v : Event) (c : Cursor) → seen_at beyond last s at ≡ Ok (Some (v, c))
      → ((l : List ℕ) (room : ℕ) → Went c.at l room (fitting room (seen_from beyond last s c.at) c.at l))
      → (l : List ℕ) (room : ℕ) → Went at l room (fitting room (event v c.at (seen_from beyond last s c.at)) at l)
  unfolding fitting
  at-whole at v c e next l room =
      let line = line_of (step l v).0 in
      let room' = room - length line in
      goes (leb (length line) room) at v c e l room refl room' _ (next (step l v).1 room')

  pub went : (at : ℕ) (l : List ℕ) (room : ℕ) → Went at l room (fitting room (seen_from beyond last s at) at l)
  went = by-seen beyond last s (λ at rs. (l : List ℕ) (room : ℕ) → Went at l room (fitting room rs at l)) at-end at-refused at-whole
