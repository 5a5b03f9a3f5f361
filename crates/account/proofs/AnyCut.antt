-- However a recording is cut, its audit is the uncut one's: by induction over the pieces.
use Rattle.std.proofs.Common.{Result, Err}
use Rattle.account.specs.declared.Report.{Report}
use Rattle.rules.specs.declared.Refusal.{Refusal}
use mathlib.Core.Path.{◌≡◌, refl, sym, ap, ◌∙◌}
use mathlib.Core.Bool.{Bool, true, false, ◌||◌}
use mathlib.Core.List.{List, [], ◌∷◌, ◌++◌, append_assoc}
use Prim.Native.Nat.{ℕ}
use native.Mathlib.Omega.{arith}
use lib.Dec.{eqb, lit≤}
use lib.ListN.{length, length-take}
use borrow.Author.Tests.{eq-eqb, ne_eqb, eqb-true, eqb-false}
use Rattle.rules.specs.declared.Refusal.TheVariants.{Store}
use Rattle.pieces.specs.Limit.{records_of}
use Rattle.pieces.specs.Held.{held_of}
use Rattle.pieces.specs.Begun.{all_of, fresh, joined, allowed, inside, beyond, records_in, Few, onward}
use Rattle.pieces.proofs.States.{few-landed}
use Rattle.pieces.proofs.Tells.{tells_none, tells-store, tells_records}
use Rattle.account.specs.declared.Survey.{Survey}
use Rattle.account.specs.Runs.{run}
use Rattle.account.specs.Reports.{course_of, reported, audit_of}
use Rattle.account.specs.Surveys.{course, trail, begins, surveyed, course_by, report_of, surveys_of}
use Rattle.account.specs.Claims.{AnyCut}
use Rattle.account.proofs.Carried.{whole-trail}
use Rattle.account.proofs.Cuts.{trailed}
use Rattle.account.proofs.Rests.{final, ended_at, final-going, when_going, when_over}

-- what a piece keeps: few bytes held, and the store's length
few-next : (v : Survey) (piece l : List ℕ) (last : Bool) → Few (surveyed l v piece last).0.begun
unfolding surveyed
few-next v piece l last = few-landed v.begun piece (last || v.begun.over) _ _

module _ (v : Survey) (piece l : List ℕ) (last : Bool) where
  by_test : (o w : Bool) → v.begun.over ≡ o → eqb (length l) 100 ≡ w → length (surveyed l v piece last).1 ≡ length l
  unfolding surveyed trail
  by_test true w h k = rw (tells_none v.begun piece last l h)
  by_test false true h k =
      rw (tells_records v.begun piece last l h (eqb-true (length l) 100 k))
      (trailed (beyond v.begun piece) last (inside v.begun piece) v.begun.at 0 v.tally l).words
  by_test false false h k = rw (tells-store v.begun piece last l h (eqb-false (length l) 100 k))

  same_length : length (surveyed l v piece last).1 ≡ length l
  same_length = by_test v.begun.over (eqb (length l) 100) refl refl

  -- a store that is not 100 words stays as it is
  by_over : (o : Bool) → v.begun.over ≡ o → (length l ≡ 100 → ⊥) → (surveyed l v piece last).1 ≡ l
  unfolding surveyed trail
  by_over true h n = rw (tells_none v.begun piece last l h)
  by_over false h n = rw (tells-store v.begun piece last l h n)

  same_store : (length l ≡ 100 → ⊥) → (surveyed l v piece last).1 ≡ l
  same_store n = by_over v.begun.over refl n

-- piece after piece
and_rest : (v : Survey) (piece more l : List ℕ) → Few v.begun → length l ≡ 100
    → let q = surveyed l v piece false in final q.0 more q.1 ≡ final v (piece ++ more) l
and_rest v piece more l few w = by v.begun.over refl
  where
    by : (o : Bool) → v.begun.over ≡ o → let q = surveyed l v piece false in final q.0 more q.1 ≡ final v (piece ++ more) l
    by true h = when_over v piece more l h
    by false h = when_going v piece more l few h w

in_pieces_lem : (ps : List (List ℕ)) (piece : List ℕ) (v : Survey) (l : List ℕ) → Few v.begun → length l ≡ 100
    → let q = surveys_of ps v l in final q.0 piece q.1 ≡ final v (all_of ps ++ piece) l
unfolding surveys_of
in_pieces_lem [] piece v l few w = refl
in_pieces_lem (p ∷ ps) piece v l few w =
    let q = surveyed l v p false in
    in_pieces_lem ps piece q.0 q.1 (few-next v p l false) (same_length v p l false ∙ w)
    ∙ and_rest v p (all_of ps ++ piece) l few w
    ∙ ap (λ (r : List ℕ). final v r l) (sym (append_assoc p (all_of ps) piece))

kept_store : (ps : List (List ℕ)) (v : Survey) (l : List ℕ) → (length l ≡ 100 → ⊥) → (surveys_of ps v l).1 ≡ l
unfolding surveys_of
kept_store [] v l n = refl
kept_store (p ∷ ps) v l n =
    let q = surveyed l v p false in
    ap (λ (s : List ℕ). (surveys_of ps q.0 s).1) (same_store v p l false n) ∙ kept_store ps q.0 l n

-- the whole recording at once
at_once : (r l : List ℕ) → length l ≡ 100 → final (begins l) r l ≡ course_of (run (records_of r) 0 l)
unfolding ended_at records_of held_of
at_once r l w =
    let t = trail 0 (records_in fresh r true) 0 (begins l).tally l in
    let n = (trailed (beyond fresh r) true (inside fresh r) 0 0 (begins l).tally l).within (omega arith) in
    let at : onward fresh t.0.at ≡ t.0.at = omega (arith, n, length-take (allowed fresh) (joined fresh r)) in
    final-going (begins l) r l refl w
    ∙ ap (λ (i : ℕ). (course t.0.tally i t.0.ending, t.1)) at
    ∙ whole-trail (records_of r) l w

few-fresh : Few fresh
unfolding held_of
few-fresh = lit≤ tt

kept-length : (ps : List (List ℕ)) (v : Survey) (l : List ℕ) → length (surveys_of ps v l).1 ≡ length l
unfolding surveys_of
kept-length [] v l = refl
kept-length (p ∷ ps) v l = let q = surveyed l v p false in kept-length ps q.0 q.1 ∙ same_length v p l false

-- the report, by the length of the store
report_whole : (w : Survey × List ℕ) → length w.1 ≡ 100 → (report_of w.1 w.0, w.1) ≡ reported (course_by w.0, w.1)
unfolding report_of
report_whole w h = rw (eq-eqb (length w.1) 100 h)

report_store : (w : Survey × List ℕ) → (length w.1 ≡ 100 → ⊥) → ◌≡◌ {A = Result Report Refusal × List ℕ} (report_of w.1 w.0, w.1) (Err Store, w.1)
unfolding report_of
report_store w h = rw (ne_eqb (length w.1) 100 h)

audit_whole : (r l : List ℕ) → length l ≡ 100 → audit_of l r ≡ reported (course_of (run (records_of r) 0 l))
unfolding audit_of
audit_whole r l h = rw (eq-eqb (length l) 100 h)

audit_store : (r l : List ℕ) → (length l ≡ 100 → ⊥) → audit_of l r ≡ (Err Store, l)
unfolding audit_of
audit_store r l h = rw (ne_eqb (length l) 100 h)

module _ (ps : List (List ℕ)) (piece l : List ℕ) where
  surveys : Survey × List ℕ
  surveys = surveys_of ps (begins l) l

  last : Survey × List ℕ
  last = surveyed surveys.1 surveys.0 piece true

  when_whole : length l ≡ 100 → (report_of last.1 last.0, last.1) ≡ audit_of l (all_of ps ++ piece)
  unfolding last surveys final
  when_whole w =
      report_whole last (same_length surveys.0 piece surveys.1 true ∙ kept-length ps (begins l) l ∙ w)
      ∙ ap reported (in_pieces_lem ps piece (begins l) l few-fresh w ∙ at_once (all_of ps ++ piece) l w)
      ∙ sym (audit_whole (all_of ps ++ piece) l w)

  when_store : (length l ≡ 100 → ⊥) → (report_of last.1 last.0, last.1) ≡ audit_of l (all_of ps ++ piece)
  unfolding last surveys
  when_store n =
      let k = kept_store ps (begins l) l n in
      let m = same_store surveys.0 piece surveys.1 true (λ h. n (sym (ap (λ (s : List ℕ). length s) k) ∙ h)) ∙ k in
      report_store last (λ h. n (sym (ap (λ (s : List ℕ). length s) m) ∙ h))
      ∙ ap (λ (s : List ℕ). (Err Store, s)) m
      ∙ sym (audit_store (all_of ps ++ piece) l n)

  by-words : (t : Bool) → eqb (length l) 100 ≡ t → (report_of last.1 last.0, last.1) ≡ audit_of l (all_of ps ++ piece)
  by-words true e = when_whole (eqb-true (length l) 100 e)
  by-words false e = when_store (eqb-false (length l) 100 e)

pub any_cut : AnyCut
unfolding last surveys
any_cut ps piece l = by-words ps piece l (eqb (length l) 100) refl
