-- However a recording is cut, its audit is the uncut one's: what a piece adds and what the rest then adds is what both add at once.
use Rattle.std.proofs.Common.{Ok, Err, Some, None}
use Rattle.account.specs.declared.Tally.{Tally}
use Rattle.account.specs.Runs.{Ending}
use Rattle.std.proofs.Common.{Ok, Err, Some, None}
use mathlib.Core.Path.{◌≡◌, refl, ap, ◌∙◌}
use mathlib.Core.Bool.{Bool, true}
use mathlib.Core.List.{List}
use Prim.Native.Nat.{ℕ, ◌+◌, ◌≤◌}
use native.Mathlib.Omega.{arith}
use lib.ListN.{length}
use Rattle.rules.specs.Words.{word, SR0, relocates}
use Rattle.rules.specs.Step.{step}
use Rattle.rules.proofs.Length.{length-stays}
use Rattle.rules.specs.declared.Event.{Event}
use Rattle.rules.specs.declared.Refusal.{Refusal}
use Rattle.records.specs.Recordings.{Records, event, end, refusal}
use Rattle.records.specs.declared.Cursor.{Cursor}
use Rattle.pieces.specs.Limit.{seen_at, seen_from}
use Rattle.pieces.proofs.SeenFrom.{seen-advances, by-seen}
use Rattle.pieces.proofs.Shifted.{shifted}
use Rattle.pieces.proofs.Fronts.{Front}
use Rattle.auditing.specs.Verdicts.{verdict_of}
use Rattle.account.specs.declared.Course.{Course}
use Rattle.account.specs.Surveys.{course, trail}
use Rattle.account.specs.Turns.{tally_after}
use Rattle.account.proofs.Trails.{trail_refused, trail_event}

abbrev pub Trail : Type 0
Trail = Course × List ℕ

-- a trail over more bytes, from where one ended: a stop ends it
abbrev pub onwards : Ending → Trail → Trail → Trail
onwards (Ok o) t u = u
onwards (Err r) t u = t

module _ (beyond last : Bool) (s : List ℕ) (base : ℕ) where
  -- a trail from a place on
  pub record Trailed (at : ℕ) (tally : Tally) (l : List ℕ) (t : Trail) : Type 0 where
    pub within : at ≤ length s → t.0.at ≤ length s
    pub words : length t.1 ≡ length l
    pub spent : t.0.ending ≡ Ok tt → seen_at beyond last s t.0.at ≡ Ok None
    pub together : (beyond' : Bool) (s' : List ℕ) → Front beyond last s beyond' s'
        → trail base (seen_from beyond' true s' at) at tally l
        ≡ onwards t.0.ending t (trail base (seen_from beyond' true s' t.0.at) t.0.at t.0.tally t.1)

  Goes : ℕ → Records → Type 0
  Goes at rs = (tally : Tally) (l : List ℕ) → Trailed at tally l (trail base rs at tally l)

  at-end : (at : ℕ) → seen_at beyond last s at ≡ Ok None → Goes at end
  unfolding trail Goes
  at-end at e tally l =
      record { within = λ h. h; words = refl; spent = λ h. e; together = λ beyond' s' f. refl }

  at-refused : (at : ℕ) (r : Refusal) → seen_at beyond last s at ≡ Err r → Goes at (refusal r)
  unfolding trail Goes
  at-refused at r e tally l =
      record {
        within = λ h. h;
        words = refl;
        spent = λ h. cc;
        together = λ beyond' s' f. trail_refused beyond' true s' base at tally l r (f.refused at r e);
      }

  at-whole : (at : ℕ) (v : Event) (c : Cursor) → seen_at beyond last s at ≡ Ok (Some (v, c)) → Goes c.at (seen_from beyond last s c.at)
      → Goes at (event v c.at (seen_from beyond last s c.at))
  unfolding trail Goes
  at-whole at v c e next tally l =
      let a = seen-advances beyond last s at v c e in
      let n = next (tally_after tally (verdict_of l v) (relocates (word (step l v).1 SR0)) (base + at) (base + c.at)) (step l v).1 in
      record {
        within = λ h. n.within a.1;
        words = n.words ∙ length-stays l v;
        spent = n.spent;
        together = λ beyond' s' f. trail_event beyond' true s' base at tally l v c (f.whole at v c e) ∙ n.together beyond' s' f;
      }

  pub trailed : (at : ℕ) (tally : Tally) (l : List ℕ) → Trailed at tally l (trail base (seen_from beyond last s at) at tally l)
  unfolding Goes
  trailed = by-seen beyond last s Goes at-end at-refused at-whole

-- a trail counted from a later place
pub trail-shifted : (n base : ℕ) (rs : Records) (at : ℕ) (tally : Tally) (l : List ℕ)
    → let t = trail (base + n) rs at tally l in
    trail base (shifted n rs) (n + at) tally l ≡ (course t.0.tally (n + t.0.at) t.0.ending, t.1)
unfolding trail
trail-shifted n base end at tally l = refl
trail-shifted n base (refusal r) at tally l = refl
trail-shifted n base (event v next rest) at tally l =
    let s = (step l v).1 in
    let w = verdict_of l v in
    let on = relocates (word s SR0) in
    let from : ℕ → ℕ → Trail =
    λ x y. trail base (shifted n rest) (n + next) (tally_after tally w on y x) s in
    let e : base + (n + next) ≡ base + n + next = omega arith in
    let f : base + (n + at) ≡ base + n + at = omega arith in
    ap (λ (x : ℕ). from x (base + (n + at))) e
    ∙ ap (λ (y : ℕ). from (base + n + next) y) f
    ∙ trail-shifted n base rest next (tally_after tally w on (base + n + at) (base + n + next)) s
