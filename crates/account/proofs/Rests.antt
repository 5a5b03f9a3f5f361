-- A piece and then the rest add to an audit what both add at once: after a stop nothing, and else the rest goes on with the same bytes.
use Rattle.std.proofs.Common.{Ok, Err, None}
use Rattle.account.specs.declared.Tally.{Tally}
use Rattle.account.specs.Runs.{Ending}
use Rattle.std.proofs.Common.{Ok, None}
use mathlib.Core.Path.{◌≡◌, refl, sym, ap, ◌∙◌}
use mathlib.Core.Bool.{true, false, cond}
use mathlib.Core.List.{List, ◌++◌}
use Prim.Native.Nat.{ℕ, ◌+◌, ◌-◌, ◌≤◌}
use native.Mathlib.Omega.{arith}
use lib.ListN.{length, drop, length-append, length-take}
use lib.Seq.{drop-length}
use borrow.Author.Tests.{ltb-false}
use Rattle.rules.specs.declared.Refusal.{Refusal}
use Rattle.records.specs.Recordings.{Records}
use Rattle.records.proofs.Parts.{stands}
use Rattle.pieces.specs.Limit.{seen_at, seen_from}
use Rattle.pieces.specs.Begun.{joined, allowed, inside, beyond, records_in, Few, onward, holding, landed}
use Rattle.pieces.specs.declared.Begun.{Begun}
use Rattle.pieces.specs.declared.How.TheVariants.{Spent}
use Rattle.pieces.proofs.Shifted.{shifted, shift}
use Rattle.pieces.proofs.Fronts.{front, one}
use Rattle.pieces.proofs.States.{holding-bytes}
use Rattle.pieces.proofs.Tells.{tells_none, tells_records, or_going, none_left}
use Rattle.pieces.proofs.Later.{same-beyond, same-inside}
use Rattle.account.specs.declared.Survey.{Survey}
use Rattle.account.specs.Surveys.{course, trail, how_by, surveyed, course_by}
use Rattle.account.proofs.Pieces.{when_over as piece-over}
use Rattle.account.proofs.Cuts.{Trail, onwards, Trailed, trailed, trail-shifted}

-- all that an audit comes to, where these are the bytes still to come
unfoldable pub final : Survey → List ℕ → List ℕ → Trail
final v rest l = let z = surveyed l v rest true in (course_by z.0, z.1)

-- where a trail over the last bytes ends
unfoldable pub ended_at : Begun → Trail → Trail
ended_at b t = (course t.0.tally (onward b t.0.at) t.0.ending, t.1)

module _ (v : Survey) (rest l : List ℕ) where
  final-over : v.begun.over ≡ true → final v rest l ≡ (course v.tally (onward v.begun 0) v.ending, l)
  unfolding final surveyed trail landed
  final-over o = rw (tells_none v.begun rest true l o) (ap (λ (x : Ending). (course v.tally (onward v.begun 0) x, l)) (same o))
    where
      same : v.begun.over ≡ true → cond v.begun.over v.ending (Ok tt) ≡ v.ending
      same k = rw k

  closes : (e : Ending) (at : ℕ) → (landed v.begun rest true at (how_by e)).begun.at ≡ onward v.begun at
  unfolding landed
  closes (Ok o) at = refl
  closes (Err r) at = refl

  pub final-going : v.begun.over ≡ false → length l ≡ 100
      → final v rest l ≡ ended_at v.begun (trail v.begun.at (records_in v.begun rest true) 0 v.tally l)
  unfolding final surveyed ended_at
  final-going o w =
      let t = trail v.begun.at (records_in v.begun rest true) 0 v.tally l in
      rw (tells_records v.begun rest true l o w, closes t.0.ending t.0.at)
      (ap (λ (x : Ending). (course t.0.tally (onward v.begun t.0.at) x, t.1)) (same o t.0.ending))
    where
      same : v.begun.over ≡ false → (e : Ending) → cond v.begun.over v.ending e ≡ e
      same k e = rw k

-- a piece that is not the last, where the run is not over: its trail, and what it leaves
of-piece : Survey → List ℕ → List ℕ → Trail
of-piece v piece l = trail v.begun.at (records_in v.begun piece false) 0 v.tally l

left_by : Survey → List ℕ → Trail → Ending → Survey
left_by v piece t e =
    record { begun = (landed v.begun piece false t.0.at (how_by e)).begun; tally = t.0.tally; ending = e }

-- the trail over more bytes, from the first on and from a place on
over-more : Survey → List ℕ → ℕ → Tally → List ℕ → Trail
over-more v rest at tally l = trail v.begun.at (seen_from (beyond v.begun rest) true (inside v.begun rest) at) at tally l

piece_adds : (v : Survey) (piece l : List ℕ) → v.begun.over ≡ false → length l ≡ 100
    → surveyed l v piece false ≡ (left_by v piece (of-piece v piece l) (of-piece v piece l).0.ending, (of-piece v piece l).1)
unfolding surveyed left_by of-piece
piece_adds v piece l o w =
    rw (tells_records v.begun piece false l o w, or_going false v.begun.over o)

module _ (v : Survey) (piece more l : List ℕ) where
  along : Trailed (beyond v.begun piece) false (inside v.begun piece) v.begun.at 0 v.tally l (of-piece v piece l)
  unfolding of-piece
  along = trailed (beyond v.begun piece) false (inside v.begun piece) v.begun.at 0 v.tally l

  goes_on : let t = of-piece v piece l in
      over-more v (piece ++ more) 0 v.tally l ≡ onwards t.0.ending t (over-more v (piece ++ more) t.0.at t.0.tally t.1)
  unfolding over-more
  goes_on =
      along.together (beyond v.begun (piece ++ more)) (inside v.begun (piece ++ more))
      (front v.begun piece more false (λ h. cc))

  -- after a stop nothing is added
  after_stop : (t : Trail) (r : Refusal)
      → final (left_by v piece t (Err r)) more t.1 ≡ (course t.0.tally (onward v.begun t.0.at) (Err r), t.1)
  unfolding left_by landed
  after_stop t r =
      let stays : onward (left_by v piece t (Err r)).begun 0 ≡ onward v.begun t.0.at = omega arith in
      final-over (left_by v piece t (Err r)) more t.1 refl
      ∙ ap (λ (at : ℕ). (course t.0.tally at (Err r), t.1)) stays

  -- where no record is left, what is held and what comes are the bytes from there on
  module _ (t : Trail) (few : Few v.begun) (words : length t.1 ≡ 100) (within : t.0.at ≤ length (inside v.begun piece))
      (spent : seen_at (beyond v.begun piece) false (inside v.begun piece) t.0.at ≡ Ok None) where
    near : (t.0.at ≤ allowed v.begun) × (t.0.at ≤ length (joined v.begun piece)) × (t.0.at ≤ length (joined v.begun (piece ++ more)))
        × (length (joined v.begun piece) - t.0.at ≤ 7)
    near =
        let b = v.begun in
        let none = none_left (beyond b piece) false (inside b piece) t.0.at (stands (inside b piece) t.0.at) spent in
        let short = ltb-false (allowed b) (length (joined b piece)) none.0 in
        let i = length-take (allowed b) (joined b piece) in
        let j = ap (λ (s : List ℕ). length s) (one b piece more) ∙ length-append (joined b piece) more in
        (omega (arith, within, i), omega (arith, within, i), omega (arith, within, i, j), omega (arith, none.1, short, i))

    bytes : joined (holding v.begun piece t.0.at).begun more ≡ drop t.0.at (joined v.begun (piece ++ more))
    bytes =
        ap (λ (x : List ℕ). joined (holding v.begun piece t.0.at).begun (x ++ more)) (sym (drop-length piece))
        ∙ holding-bytes v.begun piece t.0.at few near.1 near.3 more

    place : (holding v.begun piece t.0.at).begun.at ≡ v.begun.at + t.0.at
    place = omega (arith, near)

    same_records : records_in (holding v.begun piece t.0.at).begun more true
        ≡ seen_from (beyond v.begun (piece ++ more)) true (drop t.0.at (inside v.begun (piece ++ more))) 0
    same_records =
        let b = v.begun in
        let b' = (holding b piece t.0.at).begun in
        rw (
          same-beyond b (piece ++ more) t.0.at b' more place bytes near.0 near.2,
          same-inside b (piece ++ more) t.0.at b' more place bytes near.0 near.2,
        )

    -- the trail from there, counted from there
    counted : Trail
    counted =
        trail (v.begun.at + t.0.at) (seen_from (beyond v.begun (piece ++ more)) true (drop t.0.at (inside v.begun (piece ++ more))) 0) 0
        t.0.tally t.1

    from_there : over-more v (piece ++ more) t.0.at t.0.tally t.1
        ≡ (course counted.0.tally (t.0.at + counted.0.at) counted.0.ending, counted.1)
    unfolding over-more counted
    from_there =
        let b = v.begun in
        let n = t.0.at in
        let rest = seen_from (beyond b (piece ++ more)) true (drop n (inside b (piece ++ more))) 0 in
        let z : n + 0 ≡ n = omega arith in
        let e : seen_from (beyond b (piece ++ more)) true (inside b (piece ++ more)) n ≡ shifted n rest =
        ap (λ (i : ℕ). seen_from (beyond b (piece ++ more)) true (inside b (piece ++ more)) i) (sym z) ∙ shift (beyond b (piece ++ more)) true (inside b (piece ++ more)) n 0 in
        ap (λ (rs : Records). trail b.at rs n t.0.tally t.1) e
        ∙ ap (λ (i : ℕ). trail b.at (shifted n rest) i t.0.tally t.1) (sym z)
        ∙ trail-shifted n b.at rest 0 t.0.tally t.1

    after-all : final (left_by v piece t (Ok tt)) more t.1 ≡ ended_at v.begun (over-more v (piece ++ more) t.0.at t.0.tally t.1)
    unfolding left_by landed ended_at counted
    after-all =
        let b = v.begun in
        let n = t.0.at in
        let b' = (holding b piece n).begun in
        let here : trail b'.at (records_in b' more true) 0 t.0.tally t.1 ≡ counted =
        ap (λ (rs : Records). trail b'.at rs 0 t.0.tally t.1) same_records
        ∙ ap (λ (a : ℕ). trail a (seen_from (beyond b (piece ++ more)) true (drop n (inside b (piece ++ more))) 0) 0 t.0.tally t.1) place in
        let ends : onward b' counted.0.at ≡ onward b (n + counted.0.at) = omega (arith, place, near) in
        final-going (left_by v piece t (Ok tt)) more t.1 refl words
        ∙ ap (ended_at b') here
        ∙ ap (λ (at : ℕ). (course counted.0.tally at counted.0.ending, counted.1)) ends
        ∙ sym (ap (ended_at b) from_there)

  -- by how the piece ended
  by-ending : (t : Trail) (e : Ending) → t.0.ending ≡ e → Few v.begun → length t.1 ≡ 100 → t.0.at ≤ length (inside v.begun piece)
      → (e ≡ Ok tt → seen_at (beyond v.begun piece) false (inside v.begun piece) t.0.at ≡ Ok None)
      → final (left_by v piece t e) more t.1 ≡ ended_at v.begun (onwards e t (over-more v (piece ++ more) t.0.at t.0.tally t.1))
  unfolding ended_at
  by-ending t (Ok o) h few w n s = after-all t few w n (s refl)
  by-ending t (Err r) h few w n s =
      after_stop t r ∙ ap (λ (x : Ending). (course t.0.tally (onward v.begun t.0.at) x, t.1)) (sym h)

  -- a piece, and then the rest
  pub when_going : Few v.begun → v.begun.over ≡ false → length l ≡ 100
      → let q = surveyed l v piece false in final q.0 more q.1 ≡ final v (piece ++ more) l
  unfolding over-more
  when_going few o w =
      let t = of-piece v piece l in
      let a = along in
      ap (λ (q : Survey × List ℕ). final q.0 more q.1) (piece_adds v piece l o w)
      ∙ by-ending t t.0.ending refl few (a.words ∙ w) (a.within (omega arith)) a.spent
      ∙ sym (ap (ended_at v.begun) goes_on)
      ∙ sym (rest_of o w)
    where
      rest_of : v.begun.over ≡ false → length l ≡ 100 → final v (piece ++ more) l ≡ ended_at v.begun (over-more v (piece ++ more) 0 v.tally l)
      rest_of o w = final-going v (piece ++ more) l o w

  -- once over, nothing is added
  pub when_over : v.begun.over ≡ true → let q = surveyed l v piece false in final q.0 more q.1 ≡ final v (piece ++ more) l
  unfolding landed
  when_over o =
      let closed : Survey = record { begun = (landed v.begun piece true 0 Spent).begun; tally = v.tally; ending = v.ending } in
      let stays : onward closed.begun 0 ≡ onward v.begun 0 = omega arith in
      sym (ap (λ (q : Survey × List ℕ). final q.0 more q.1) (piece-over l v piece false o (landed v.begun piece true 0 Spent) refl))
      ∙ final-over closed more l refl
      ∙ ap (λ (at : ℕ). (course v.tally at v.ending, l)) stays
      ∙ sym (final-over v (piece ++ more) l o)
