-- Where the loop stands: what it read so far are pieces of the recording, surveyed one after the other. So it is at first, and each piece
-- leaves it so; where the run is over, the report is that of all the bytes.
use Rattle.std.specs.Prelude.{⊤}
use Rattle.std.proofs.Common.{ℕ, ◌≡◌, refl, sym, ap, ◌∙◌, Bool, true, false, List, [], ◌∷◌, ◌++◌, None, Some, IfSome, Result, Ok, Err, is_ok, OnOk, true≢false, append-nil, append_assoc, length, le-leb, arith}
use borrow.Author.Tests.{both_ways}
use Rattle.std.specs.declared.option.Option.{Option}
use Rattle.std.specs.Io.KnownBytes.{Appends, Consumes, IsAtEnd, prepend_known}
use Rattle.pieces.specs.Begun.{all_of, landed, onward}
use Rattle.pieces.specs.declared.Begun.{Begun}
use Rattle.pieces.proofs.Tells.{tells_none}
use Rattle.stream.specs.Ready.{waiting}
use Rattle.account.specs.Reports.{audit_of}
use Rattle.account.specs.Surveys.{begins, surveyed, surveys_of, report_of, trail, how_by}
use Rattle.account.specs.declared.Survey.{Survey}
use Rattle.account.specs.declared.Report.{Report}
use Rattle.rules.specs.declared.Refusal.{Refusal}
use Rattle.account.specs.Runs.{Ending}
use Rattle.wording.specs.Texts.{text_of}
use Rattle.audit.specs.Audits.{Audits}
use Rattle.account.proofs.AnyCut.{any_cut}

-- the bytes of the input, those still to be read, the survey so far, and the store
abbrev pub Stands : Option (List ℕ) → Option (List ℕ) → Survey → List ℕ → List ℕ → Type 0
Stands None rest v l₀ l = ⊤
Stands (Some xs) None v l₀ l = ⊥
Stands (Some xs) (Some ys) v l₀ l = (ps : List (List ℕ)) × (surveys_of ps (begins l₀) l₀ ≡ (v, l)) × (all_of ps ++ ys ≡ xs)

-- from no bytes to no bytes none lie ready
pub none_waits : (was : List ℕ) → waiting 0 0 was ≡ []
none_waits was = rw (le-leb 0 (length was) (omega arith)) refl

pub start : (known : Option (List ℕ)) (l : List ℕ) → Stands known known (begins l) l l
unfolding surveys_of
start None l = tt
start (Some xs) l = ([], refl, refl)

-- a piece after the others
pieces_more : (ps : List (List ℕ)) (piece : List ℕ) (v : Survey) (l : List ℕ)
    → let q = surveys_of ps v l in surveys_of (ps ++ piece ∷ []) v l ≡ surveyed q.1 q.0 piece false
unfolding surveys_of
pieces_more [] piece v l = refl
pieces_more (p ∷ ps) piece v l = let q = surveyed l v p false in pieces_more ps piece q.0 q.1

bytes_more : (ps : List (List ℕ)) (piece : List ℕ) → all_of (ps ++ piece ∷ []) ≡ all_of ps ++ piece
bytes_more [] piece = append-nil piece
bytes_more (p ∷ ps) piece = ap (λ (s : List ℕ). p ++ s) (bytes_more ps piece) ∙ sym (append_assoc p (all_of ps) piece)

-- after the last piece the run is over
closes : (b : Begun) (piece : List ℕ) (at : ℕ) (e : Ending) → (landed b piece true at (how_by e)).begun.over ≡ true
unfolding landed
closes b piece at (Ok x) = refl
closes b piece at (Err r) = refl

over_at_last : (v : Survey) (piece l : List ℕ) → (surveyed l v piece true).0.begun.over ≡ true
unfolding surveyed
over_at_last v piece l = closes v.begun piece _ _

abbrev Found : Type 0
Found = Result Report Refusal × List ℕ

-- a survey's report, with the store
found : Survey × List ℕ → Found
found w = (report_of w.1 w.0, w.1)

-- once over, no byte changes the report
closed : (v : Survey) (rest l : List ℕ) → v.begun.over ≡ true
    → let w = surveyed l v rest true in ◌≡◌ {A = Found} (report_of w.1 w.0, w.1) (report_of l v, l)
unfolding surveyed trail landed report_of found
closed v rest l o =
    rw (tells_none v.begun rest true l o, o)
    (ap (λ (at : ℕ). found (record { begun = record { held = v.begun.held; at = at; over = v.begun.over }; tally = v.tally; ending = v.ending }, l)) (stays v.begun))
  where
    stays : (b : Begun) → onward b 0 ≡ b.at
    stays b = omega arith

-- a piece
module _ (l : List ℕ) (v : Survey) (piece : List ℕ) (last : Bool) (x : Survey × List ℕ) (e : x ≡ surveyed l v piece last) where
  adds : (xs ys zs l₀ : List ℕ) → last ≡ false → ys ≡ piece ++ zs → Stands (Some xs) (Some ys) v l₀ l → Stands (Some xs) (Some zs) x.0 l₀ x.1
  adds xs ys zs l₀ f c h =
      let was : x ≡ surveyed l v piece false = rw f at e in (
        h.0 ++ piece ∷ [],
        pieces_more h.0 piece (begins l₀) l₀ ∙ ap (λ (q : Survey × List ℕ). surveyed q.1 q.0 piece false) h.1 ∙ sym was,
        ap (λ (s : List ℕ). s ++ zs) (bytes_more h.0 piece) ∙ append_assoc (all_of h.0) piece zs
            ∙ ap (λ (s : List ℕ). all_of h.0 ++ s) (sym c) ∙ h.2,
      )

  -- a last one ends the run
  ends : last ≡ true → x.0.begun.over ≡ true
  ends k = let was : x ≡ surveyed l v piece true = rw k at e in ap (λ (q : Survey × List ℕ). q.0.begun.over) was ∙ over_at_last v piece l

  pub step : (known rest rest' : Option (List ℕ)) (l₀ : List ℕ) → x.0.begun.over ≡ false
      → Stands known rest v l₀ l → Consumes (prepend_known [] rest) rest' piece → Stands known rest' x.0 l₀ x.1
  step None rest rest' l₀ o h c = tt
  step (Some xs) None rest' l₀ o h c = absurd h
  step (Some xs) (Some ys) None l₀ o h c = absurd c
  step (Some xs) (Some ys) (Some zs) l₀ o h c = by last refl
    where
      by : (t : Bool) → last ≡ t → Stands (Some xs) (Some zs) x.0 l₀ x.1
      by true k = absurd (both_ways x.0.begun.over o (ends k))
      by false k = adds xs ys zs l₀ k c h

  pub finish : (known rest rest' : Option (List ℕ)) (l₀ : List ℕ) → x.0.begun.over ≡ true
      → Stands known rest v l₀ l → Consumes (prepend_known [] rest) rest' piece → (last ≡ true → IsAtEnd rest')
      → IfSome known (λ xs. ◌≡◌ {A = Found} (report_of x.1 x.0, x.1) (audit_of l₀ xs))
  unfolding found
  finish None rest rest' l₀ o h c z = tt
  finish (Some xs) None rest' l₀ o h c z = absurd h
  finish (Some xs) (Some ys) None l₀ o h c z = absurd c
  finish (Some xs) (Some ys) (Some zs) l₀ o h c z = by last refl
    where
      by : (t : Bool) → last ≡ t → ◌≡◌ {A = Found} (report_of x.1 x.0, x.1) (audit_of l₀ xs)
      by true k =
          let was : x ≡ surveyed l v piece true = rw k at e in
          let q = surveys_of h.0 (begins l₀) l₀ in
          let same : x ≡ surveyed q.1 q.0 piece true = was ∙ ap (λ (q : Survey × List ℕ). surveyed q.1 q.0 piece true) (sym h.1) in
          let all : all_of h.0 ++ piece ≡ xs =
          ap (λ (s : List ℕ). all_of h.0 ++ s) (sym (c ∙ ap (λ (s : List ℕ). piece ++ s) (z k) ∙ append-nil piece)) ∙ h.2 in
          ap found same ∙ any_cut h.0 piece l₀ ∙ ap (audit_of l₀) all
      by false k =
          let n = adds xs ys zs l₀ k c h in
          let q = surveys_of n.0 (begins l₀) l₀ in
          sym (closed x.0 zs x.1 o)
          ∙ ap (λ (q : Survey × List ℕ). found (surveyed q.1 q.0 zs true)) (sym n.1)
          ∙ any_cut n.0 zs l₀ ∙ ap (audit_of l₀) n.2

-- the report written, its error mapped
pub told : {T E D : Type 0} (r : Result T E) (r' : Result T D) (known before before' after : Option (List ℕ)) (a : Result Report Refusal) (l₀ l : List ℕ)
    → is_ok r' ≡ is_ok r → before' ≡ before → OnOk r (Appends before' after (text_of a))
    → IfSome known (λ xs. ◌≡◌ {A = Found} (a, l) (audit_of l₀ xs)) → Audits r' known before after l₀ l
told r (Err d) known before before' after a l₀ l k b w f = tt
told (Err e) (Ok y) known before before' after a l₀ l k b w f = absurd (true≢false k)
told (Ok x) (Ok y) None before before' after a l₀ l k b w f = tt
told (Ok x) (Ok y) (Some xs) before before' after a l₀ l k b w f =
    let s = rw b at w in
    (rw (ap (λ (q : Found). q.0) f) at s, ap (λ (q : Found). q.1) f)
