-- The records from a place on are those of what is left there, so many bytes further on.
use Rattle.std.proofs.Common.{Ok, Err, Some, None}
use mathlib.Core.Path.{◌≡◌, refl, ap, ◌∙◌}
use mathlib.Core.Bool.{Bool, true, false, cond}
use mathlib.Core.List.{List}
use Prim.Native.Nat.{ℕ, ◌+◌}
use lib.Dec.{eqb}
use lib.ListN.{drop}
use Rattle.rules.specs.Paper.{number}
use Rattle.rules.specs.declared.Refusal.TheVariants.{Long}
use Rattle.records.specs.Records.{record_at, Found}
use Rattle.records.specs.Recordings.{Records, event, end, refusal}
use Rattle.pieces.specs.Limit.{ending, seen_at, seen_from}
use Rattle.pieces.specs.Moved.{moved}
use Rattle.pieces.proofs.Across.{dropped}
use Rattle.pieces.proofs.SeenFrom.{every_seen, by-seen}

abbrev pub shifted : ℕ → Records → Records
shifted n (event v next rest) = event v (n + next) (shifted n rest)
shifted n end = end
shifted n (refusal r) = refusal r

ending-moved : (beyond last : Bool) (n : ℕ) (x : Found) → ending beyond last (moved n x) ≡ moved n (ending beyond last x)
ending-moved beyond last n (Ok (Some (v, c))) = refl
ending-moved true last n (Ok None) = refl
ending-moved false last n (Ok None) = refl
ending-moved beyond last n (Err r) = by (eqb (number r) 12) beyond last
  where
    by : (cut b l : Bool) → let x = cond cut (cond b (Err Long) (cond l (Err r) (Ok None))) (Err r) in x ≡ moved n x
    by true true l = refl
    by true false true = refl
    by true false false = refl
    by false b l = refl

module _ (beyond last : Bool) (s : List ℕ) (n : ℕ) where
  at_moved : (at : ℕ) (x : Found) → seen_at beyond last (drop n s) at ≡ x → seen_at beyond last s (n + at) ≡ moved n x
  at_moved at x e = ap (ending beyond last) (dropped n s at) ∙ ending-moved beyond last n (record_at (drop n s) at) ∙ ap (moved n) e

  pub shift : (at : ℕ) → seen_from beyond last s (n + at) ≡ shifted n (seen_from beyond last (drop n s) at)
  shift =
      by-seen beyond last (drop n s) (λ at rs. seen_from beyond last s (n + at) ≡ shifted n rs)
      (λ at e. rw (every_seen beyond last s (n + at), at_moved at (Ok None) e))
      (λ at r e. rw (every_seen beyond last s (n + at), at_moved at (Err r) e))
      (λ at v c e next. rw (every_seen beyond last s (n + at), at_moved at (Ok (Some (v, c))) e, next))
