-- What is carried comes to the report: with what is carried at a record, the run from there tells what the whole run tells. So the
-- trail of a recording is its course.
use Rattle.std.proofs.Common.{Ok, Err, Some, None}
use Rattle.std.specs.declared.option.Option.{Option}
use Rattle.account.specs.declared.Tally.{Tally}
use mathlib.Core.Path.{◌≡◌, refl, sym, ap, ◌∙◌}
use mathlib.Core.Bool.{Bool, true, false, cond, ◌&&◌}
use mathlib.Core.List.{List, ◌∷◌}
use Prim.Native.Nat.{ℕ, ◌+◌}
use native.Mathlib.Omega.{arith}
use lib.ListN.{length}
use Rattle.rules.specs.Words.{word, SR0, relocates}
use Rattle.rules.specs.Step.{step}
use Rattle.rules.specs.declared.Event.{Event}
use Rattle.records.specs.Recordings.{Records, event, end, refusal}
use Rattle.rules.proofs.Length.{length-stays}
use Rattle.pieces.proofs.Shifted.{shifted}
use Rattle.widening.specs.Runs.{calm, permitted}
use Rattle.auditing.specs.Verdicts.{Verdict, verdict_of}
use Rattle.auditing.proofs.Permitted.{permitted_is}
use Rattle.account.specs.declared.Course.{Course}
use Rattle.account.specs.Runs.{Ending, point, Run, ended, before, run}
use Rattle.account.specs.Reports.{Broken, events_of, kept_from, break_at, or_earlier, last_broken, course_of}
use Rattle.account.specs.Turns.{fresh, kept_after, broken_after, tally_after}
use Rattle.account.specs.Surveys.{course, trail}

abbrev on : List ℕ → Bool
on l = relocates (word l SR0)

-- what a run from a store tells of the premises, with what was kept before it
abbrev kept_of : Run → Option ℕ
kept_of q = kept_from q.points q.at q.store

abbrev pub kept_over : Option ℕ → List ℕ → Run → Option ℕ
kept_over None l q = kept_of q
kept_over (Some from) l q = cond (calm l (events_of q.points)) (Some from) (kept_of q)

abbrev pub over : Tally → List ℕ → Run → Course × List ℕ
over t l q = (
  record {
    tally = record { kept = kept_over t.kept l q; broken = or_earlier (last_broken q.points) t.broken };
    at = q.at;
    ending = q.ending;
  },
  q.store,
)

-- nothing was kept only where relocation is off
abbrev pub Sound : Option ℕ → List ℕ → Type 0
Sound kept l = kept ≡ None → on l ≡ false

stopping : (kept : Option ℕ) (broken : Broken) (at : ℕ) (l : List ℕ) (x : Ending) → Sound kept l
    → over (record { kept = kept; broken = broken }) l (ended at l x) ≡ (course (record { kept = kept; broken = broken }) at x, l)
stopping None broken at l x s = rw (s refl)
stopping (Some from) broken at l x s = refl

-- kept from here, if relocation is on, is what the run from here tells
fresh-of : (rs : Records) (at : ℕ) (l : List ℕ) (o : Bool) → on l ≡ o → kept_over (fresh o at) l (run rs at l) ≡ kept_of (run rs at l)
fresh-of rs at l false e = refl
fresh-of end at l true e = rw e
fresh-of (refusal x) at l true e = rw e
fresh-of (event v next rest) at l true e = rw e (same (calm l (v ∷ events_of later.points)))
  where
    later : Run
    later = run rest next (step l v).1

    same : (k : Bool) → cond k (Some at) (cond (true && k) (Some at) (kept_of later)) ≡ cond (true && k) (Some at) (kept_of later)
    same true = refl
    same false = refl

fresh_kept : (rs : Records) (at : ℕ) (l : List ℕ) → kept_over (fresh (on l) at) l (run rs at l) ≡ kept_of (run rs at l)
fresh_kept rs at l = fresh-of rs at l (on l) refl

-- an event, and the records after it
module _ (at : ℕ) (l : List ℕ) (whole : length l ≡ 100) (e : Event) (next : ℕ) (more : Records) where
  abbrev after : List ℕ
  after = (step l e).1

  abbrev rest : Run
  rest = run more next after

  -- a verdict on this record, as demand 3 has it
  allowed : verdict_of l e ≡ Ok None → permitted l e ≡ true
  allowed h = ((permitted_is l e).0 h).1

  broke : (v : Verdict) → (v ≡ Ok None → ⊥) → verdict_of l e ≡ v → (b : Bool) → permitted l e ≡ b → permitted l e ≡ false
  broke v n h true p = absurd (n (sym h ∙ (permitted_is l e).1 (whole, p)))
  broke v n h false p = p

  -- p this step permitted, k every later one; o relocation on
  kept_on : (o k : Bool) (from : ℕ) → cond k (Some from) (cond (o && k) (Some at) (kept_of rest)) ≡ cond k (Some from) (kept_of rest)
  kept_on o true from = refl
  kept_on true false from = refl
  kept_on false false from = refl

  none_before : (o : Bool) → cond (o && false) (Some at) (kept_of rest) ≡ kept_of rest
  none_before true = refl
  none_before false = refl

  ends : (from : ℕ) → permitted l e ≡ false
      → kept_over (Some from) l (before (point at l e) rest) ≡ kept_over (fresh (on after) next) after rest
  ends from p = rw p (none_before (on l) ∙ sym (fresh_kept more next after))

  kept-turn : (kept : Option ℕ) → Sound kept l → (v : Verdict) → verdict_of l e ≡ v
      → kept_over kept l (before (point at l e) rest) ≡ kept_over (kept_after kept v (on after) next) after rest
  kept-turn None s (Ok None) h = rw (s refl) (sym (fresh_kept more next after))
  kept-turn None s (Ok (Some x)) h = rw (s refl) (sym (fresh_kept more next after))
  kept-turn None s (Err x) h = rw (s refl) (sym (fresh_kept more next after))
  kept-turn (Some from) s (Ok None) h = rw (allowed h) (kept_on (on l) (calm after (events_of rest.points)) from)
  kept-turn (Some from) s (Ok (Some x)) h = ends from (broke (Ok (Some x)) (λ q. cc) h (permitted l e) refl)
  kept-turn (Some from) s (Err x) h = ends from (broke (Err x) (λ q. cc) h (permitted l e) refl)

  broken_turn : (broken : Broken) (v : Verdict) → verdict_of l e ≡ v
      → or_earlier (last_broken (point at l e ∷ rest.points)) broken ≡ or_earlier (last_broken rest.points) (broken_after broken v at)
  broken_turn broken v h = rw h (by (last_broken rest.points) (break_at at v))
    where
      by : (a b : Broken) → or_earlier (or_earlier a b) broken ≡ or_earlier a (or_earlier b broken)
      by (Some x) b = refl
      by None b = refl

  turned : (t : Tally) → Sound t.kept l
      → over t l (before (point at l e) rest) ≡ over (tally_after t (verdict_of l e) (on after) at next) after rest
  turned t s = rw (kept-turn t.kept s (verdict_of l e) refl, broken_turn t.broken (verdict_of l e) refl)

  sound-turn : (kept : Option ℕ) (v : Verdict) → Sound (kept_after kept v (on after) next) after
  sound-turn kept v = by kept v
    where
      off : (o : Bool) → fresh o next ≡ None → o ≡ false
      off true h = cc
      off false h = refl

      by : (kept : Option ℕ) (v : Verdict) → Sound (kept_after kept v (on after) next) after
      by (Some from) (Ok None) h = cc
      by None (Ok None) h = off (on after) h
      by kept (Ok (Some x)) h = off (on after) h
      by kept (Err x) h = off (on after) h

-- the trail of some records is what their run tells, with what was carried before them
along : (base : ℕ) (rs : Records) (at : ℕ) (tally : Tally) (l : List ℕ) → Sound tally.kept l → length l ≡ 100
    → let t = trail base rs at tally l in
    over tally l (run (shifted base rs) (base + at) l) ≡ (course t.0.tally (base + t.0.at) t.0.ending, t.1)
unfolding trail
along base end at tally l s w = stopping tally.kept tally.broken (base + at) l (Ok tt) s
along base (refusal r) at tally l s w = stopping tally.kept tally.broken (base + at) l (Err r) s
along base (event e next rest) at tally l s w =
    let after = (step l e).1 in
    let v = verdict_of l e in
    turned (base + at) l w e (base + next) (shifted base rest) tally s
    ∙ along base rest next (tally_after tally v (on after) (base + at) (base + next)) after
    (sound-turn (base + at) l w e (base + next) (shifted base rest) tally.kept v) (length-stays l e ∙ w)

-- from the first byte on
unshifted : (rs : Records) → shifted 0 rs ≡ rs
unshifted end = refl
unshifted (refusal r) = refl
unshifted (event e next rest) = let z : 0 + next ≡ next = omega arith in rw (z, unshifted rest)

none_earlier : (b : Broken) → or_earlier b None ≡ b
none_earlier (Some x) = refl
none_earlier None = refl

-- what is carried at the first byte
abbrev first : List ℕ → Tally
first l = record { kept = fresh (on l) 0; broken = None }

first-sound : (l : List ℕ) (o : Bool) → on l ≡ o → Sound (fresh o 0) l
first-sound l true e h = cc
first-sound l false e h = e

pub whole-trail : (rs : Records) (l : List ℕ) → length l ≡ 100 → trail 0 rs 0 (first l) l ≡ course_of (run rs 0 l)
whole-trail rs l w =
    let t = trail 0 rs 0 (first l) l in
    let a = along 0 rs 0 (first l) l (first-sound l (on l) refl) w in
    let z : 0 + t.0.at ≡ t.0.at = omega arith in
    let b = sym (ap (λ (x : Records). over (first l) l (run x 0 l)) (unshifted rs)) ∙ a in
    sym (rw z at b) ∙ rw (fresh_kept rs 0 l, none_earlier (last_broken (run rs 0 l).points))
