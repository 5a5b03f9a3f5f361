-- The bytes of a piece are the front of those of the piece and more: what is seen in them is seen there too, but for their end.
use Rattle.std.proofs.Common.{Ok, Err, Some, None}
use mathlib.Core.Path.{◌≡◌, refl, sym, ◌∙◌}
use mathlib.Core.Bool.{Bool, true, false}
use mathlib.Core.List.{List, [], ◌++◌, append_assoc, append-nil}
use Prim.Native.Nat.{ℕ, ◌-◌, ◌<◌, ◌≤◌}
use native.Mathlib.Omega.{arith}
use lib.ListN.{length, take, length-append}
use lib.Seq.{take_all, take-append-le}
use borrow.Author.Tests.{lt-ltb, ltb-true, ltb-false}
use Rattle.rules.specs.declared.Event.{Event}
use Rattle.rules.specs.declared.Refusal.{Refusal}
use Rattle.records.specs.Records.{record_at, Found}
use Rattle.records.specs.declared.Cursor.{Cursor}
use Rattle.records.proofs.Laws.{at-end, at-unknown, at_cut, at-whole}
use Rattle.records.proofs.Parts.{Stands, none, unknown, cut, whole, stands, front-unknown, front-whole}
use Rattle.pieces.specs.Limit.{ending, seen_at}
use Rattle.pieces.specs.Held.{bytes_of}
use Rattle.pieces.specs.Begun.{joined, allowed, inside, beyond}
use Rattle.pieces.specs.declared.Begun.{Begun}
use Rattle.pieces.proofs.Lists.{take-two}

-- bytes of which others are the front: what is seen there, but for the end, is seen in them too
pub record Front (beyond last : Bool) (s : List ℕ) (beyond' : Bool) (s' : List ℕ) : Type 0 where
  pub whole : (at : ℕ) (v : Event) (c : Cursor) → seen_at beyond last s at ≡ Ok (Some (v, c)) → seen_at beyond' true s' at ≡ Ok (Some (v, c))
  pub refused : (at : ℕ) (r : Refusal) → seen_at beyond last s at ≡ Err r → seen_at beyond' true s' at ≡ Err r

-- beyond the limit it does not matter which bytes are the last
any_last : (last : Bool) (x : Found) → ending true last x ≡ ending true true x
any_last last (Ok (Some (v, c))) = refl
any_last last (Ok None) = refl
any_last last (Err r) = refl

-- what is seen before more bytes, but for the end
module _ (s t : List ℕ) (at : ℕ) (y : Found) (beyond : Bool) (some : y ≡ Ok None → ⊥) (e : seen_at false false s at ≡ y) where
  kept : Stands s at → seen_at beyond true (s ++ t) at ≡ y
  kept (none h) = absurd (some (sym e ∙ rw (at-end s at h)))
  kept (cut h k l) = absurd (some (sym e ∙ rw (at_cut s at h k l)))
  kept (unknown h k) = rw (front-unknown s t at h k, at-unknown s at h k) (rw (at-unknown s at h k) at e)
  kept (whole h k l) = rw (front-whole s t at h k l, at-whole s at h k l) (rw (at-whole s at h k l) at e)

module _ (b : Begun) (piece more : List ℕ) where
  pub one : joined b (piece ++ more) ≡ joined b piece ++ more
  one = sym (append_assoc (bytes_of b.held) piece more)

  -- where bytes lie beyond the limit, those inside are the same
  past : (last : Bool) → allowed b < length (joined b piece) → Front true last (inside b piece) (beyond b (piece ++ more)) (inside b (piece ++ more))
  past last h =
      let n = length-append (joined b piece) more in
      let i : inside b (piece ++ more) ≡ inside b piece = rw one (take-append-le (allowed b) (joined b piece) more (omega (arith, h))) in
      let o : beyond b (piece ++ more) ≡ true = rw one (lt-ltb (allowed b) (length (joined b piece ++ more)) (omega (arith, h, n))) in
      record {
        whole = λ at v c e. rw (i, o) (sym (any_last last (record_at (inside b piece) at)) ∙ e);
        refused = λ at r e. rw (i, o) (sym (any_last last (record_at (inside b piece) at)) ∙ e);
      }

  -- where they are the last, there are no more
  final : more ≡ [] → (x : Bool) → beyond b piece ≡ x → Front x true (inside b piece) (beyond b (piece ++ more)) (inside b (piece ++ more))
  final m x o =
      let p : piece ++ more ≡ piece = rw (m, append-nil piece) in
      record { whole = λ at v c e. rw (p, o) e; refused = λ at r e. rw (p, o) e }

  -- where all of them are inside the limit, more come after them
  going : length (joined b piece) ≤ allowed b → Front false false (inside b piece) (beyond b (piece ++ more)) (inside b (piece ++ more))
  going h =
      let j = joined b piece in
      let t = take (allowed b - length j) more in
      let i : inside b piece ≡ j = take_all (allowed b) j h in
      let o : inside b (piece ++ more) ≡ j ++ t = rw one (rw (take_all (allowed b) j h) at (take-two (allowed b) j more)) in
      record {
        whole = λ at v c e. rw o (kept j t at (Ok (Some (v, c))) (beyond b (piece ++ more)) (λ z. cc) (rw i at e) (stands j at));
        refused = λ at r e. rw o (kept j t at (Err r) (beyond b (piece ++ more)) (λ z. cc) (rw i at e) (stands j at));
      }

  by-limit : (x last : Bool) → beyond b piece ≡ x → (last ≡ true → more ≡ [])
      → Front x last (inside b piece) (beyond b (piece ++ more)) (inside b (piece ++ more))
  by-limit true last o m = past last (ltb-true (allowed b) (length (joined b piece)) o)
  by-limit false true o m = final (m refl) false o
  by-limit false false o m = going (ltb-false (allowed b) (length (joined b piece)) o)

  pub front : (last : Bool) → (last ≡ true → more ≡ [])
      → Front (beyond b piece) last (inside b piece) (beyond b (piece ++ more)) (inside b (piece ++ more))
  front last m = by-limit (beyond b piece) last refl m
