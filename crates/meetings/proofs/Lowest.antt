-- A pass over all pages finds the lowest shared block and its two pages, or none; and no meeting is answered exactly if the modes are apart.
use mathlib.Core.Path.{◌≡◌, refl, sym, ap, ◌∙◌}
use mathlib.Core.Bool.{Bool, true, false, cond, not, ◌||◌, ◌&&◌, false≢true, true≢false}
use mathlib.Core.List.{List}
use Prim.Native.Nat.{ℕ}
use native.Mathlib.Omega.{arith}
use lib.Dec.{eqb, ltb}
use lib.ListN.{length}
use borrow.Author.Tests.{eqb-true, eq-eqb, lt-ltb}
use Rattle.rules.specs.Words.{word, SR3}
use Rattle.std.proofs.Common.{Some, None, Result, Ok, Err}
use Rattle.std.specs.declared.option.Option.{Option}
use Rattle.rules.specs.declared.Refusal.{Refusal}
use Rattle.rules.specs.declared.Refusal.TheVariants.{Store}
use Rattle.widening.specs.Some.{some}
use Rattle.widening.specs.Reaches.{page_reaches, pages_of, reaches, shared, apart}
use Rattle.meetings.specs.declared.Meeting.{Meeting}
use Rattle.meetings.specs.Firsts.{first_of}
use Rattle.meetings.specs.Parting.{lowest_page, meeting_at, parting_of, ApartIs}
use Rattle.meetings.specs.Pass.{start, whole_pass}
use Rattle.meetings.proofs.First.{first_is, first_some}
use Rattle.meetings.proofs.Tracks.{Two, neither, LowestIs, Tracks, started}
use Rattle.meetings.proofs.Passes.{pages_track}
use Rattle.meetings.proofs.Seconds.{two_at, two_modes}

abbrev meeting : ℕ → ℕ → ℕ → Meeting
meeting block first second = record { block = block; first = first; second = second }

-- of three modes that reach a block or not, each with its page: a second page exactly if two reach it, and then the two are the meeting
pick : (x : ℕ) (a b c : Bool) (p q r : ℕ) (t : Two)
    → t ≡ (let user = cond c (Some r) None in cond a (Some p, cond b (Some q) user) (cond b (Some q, user) (user, None)))
    → (((a && b) || (a && c) || (b && c)) ≡ false → t.1 ≡ None)
    × (((a && b) || (a && c) || (b && c)) ≡ true
    → let m = cond a (cond b (meeting x p q) (meeting x p r)) (meeting x q r) in (m.block ≡ x) × (t.0 ≡ Some m.first) × (t.1 ≡ Some m.second))
pick x true true c p q r t e = (λ h. absurd (true≢false h), λ h. (refl, rw e, rw e))
pick x true false true p q r t e = (λ h. absurd (true≢false h), λ h. (refl, rw e, rw e))
pick x true false false p q r t e = (λ h. rw e, λ h. absurd (false≢true h))
pick x false true true p q r t e = (λ h. absurd (true≢false h), λ h. (refl, rw e, rw e))
pick x false true false p q r t e = (λ h. rw e, λ h. absurd (false≢true h))
pick x false false c p q r t e = (λ h. rw e, λ h. absurd (false≢true h))

module _ (l : List ℕ) where
  seconds : (x : ℕ) → (shared l x ≡ false → (two_at l x).1 ≡ None)
      × (shared l x ≡ true → ((meeting_at l x).block ≡ x) × ((two_at l x).0 ≡ Some (meeting_at l x).first) × ((two_at l x).1 ≡ Some (meeting_at l x).second))
  unfolding shared reaches meeting_at
  seconds x =
      pick x (some (page_reaches l x) 0 (pages_of (word l SR3) 0)) (some (page_reaches l x) 16 (pages_of (word l SR3) 1))
      (some (page_reaches l x) 32 (pages_of (word l SR3) 3)) (lowest_page l x 0) (lowest_page l x 1) (lowest_page l x 3)
      (two_at l x) (two_modes l x)

  whole : Tracks (whole_pass l) (two_at l)
  unfolding whole_pass
  whole =
      pages_track l 32 (pages_of (word l SR3) 3) _ _
      (pages_track l 16 (pages_of (word l SR3) 1) _ _
      (pages_track l 0 (pages_of (word l SR3) 0) start (λ x. neither) started))

  -- a block with no second is not shared, and one with a second is
  free : (x : ℕ) → (two_at l x).1 ≡ None → (b : Bool) → shared l x ≡ b → shared l x ≡ false
  free x h true e = let k : Some (meeting_at l x).second ≡ None = sym ((seconds x).1 e).2 ∙ h in cc
  free x h false e = e

  taken : (x q : ℕ) → (two_at l x).1 ≡ Some q → (b : Bool) → shared l x ≡ b → shared l x ≡ true
  taken x q h true e = e
  taken x q h false e = let k : Some q ≡ None = sym h ∙ (seconds x).0 e in cc

  pub found : (whole_pass l).lowest ≡ cond (ltb (first_of (shared l) 0 4096) 4096) (Some (meeting_at l (first_of (shared l) 0 4096))) None
  found = by (whole_pass l).lowest whole.lowest
    where
      by : (o : Option Meeting) → LowestIs o (two_at l)
          → o ≡ cond (ltb (first_of (shared l) 0 4096) 4096) (Some (meeting_at l (first_of (shared l) 0 4096))) None
      by None w =
          let k : first_of (shared l) 0 4096 ≡ 4096 =
          first_is (shared l) 0 4096 4096 (omega arith) (omega arith) (λ x a b. free x (w x b) (shared l x) refl) (λ h. absurd (omega arith)) in
          rw k
      by (Some m) w =
          let t = taken m.block m.second w.second (shared l m.block) refl in
          let k : first_of (shared l) 0 4096 ≡ m.block =
          first_is (shared l) 0 4096 m.block (omega arith) (omega (arith, w.inside)) (λ x a b. free x (w.below x b) (shared l x) refl) (λ h. t) in
          let s = (seconds m.block).1 t in
          let a : Some m.first ≡ Some (meeting_at l m.block).first = sym w.first ∙ s.1 in
          let b : Some m.second ≡ Some (meeting_at l m.block).second = sym w.second ∙ s.2 in
          let f : m.first ≡ (meeting_at l m.block).first = cc in
          let g : m.second ≡ (meeting_at l m.block).second = cc in
          rw (k, lt-ltb m.block 4096 w.inside) (ap Some (same m (meeting_at l m.block) (sym s.0) f g))
        where
          same : (m n : Meeting) → m.block ≡ n.block → m.first ≡ n.first → m.second ≡ n.second → meeting m.block m.first m.second ≡ n
          same m n e f g = rw (e, f, g)

-- w a whole store, g some shared block
both_ways : (w g : Bool) (m : Meeting)
    → (◌≡◌ {A = Result (Option Meeting) Refusal} (cond w (Ok (cond g (Some m) None)) (Err Store)) (Ok None) → (w ≡ true) × (not g ≡ true))
    × ((w ≡ true) × (not g ≡ true) → ◌≡◌ {A = Result (Option Meeting) Refusal} (cond w (Ok (cond g (Some m) None)) (Err Store)) (Ok None))
both_ways false g m = (λ h. cc, λ h. absurd (false≢true h.0))
both_ways true true m = (λ h. cc, λ h. absurd (false≢true h.1))
both_ways true false m = (λ h. (refl, refl), λ h. refl)

pub apart_is : ApartIs
unfolding parting_of apart
apart_is l =
    let g = ltb (first_of (shared l) 0 4096) 4096 in
    let s : g ≡ some (shared l) 0 4096 = first_some (shared l) 0 4096 in
    let t = both_ways (eqb (length l) 100) g (meeting_at l (first_of (shared l) 0 4096)) in (
      λ h. let k = t.0 h in (eqb-true (length l) 100 k.0, rw s at k.1),
      λ h. t.1 (eq-eqb (length l) 100 h.0, rw s h.1),
    )
