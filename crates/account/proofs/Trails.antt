-- A trail over what is seen from a place on: by what stands there.
use Rattle.std.proofs.Common.{Ok, Err, Some, None}
use Rattle.account.specs.declared.Tally.{Tally}
use Rattle.std.proofs.Common.{Ok, Err, Some, None}
use mathlib.Core.Path.{◌≡◌}
use mathlib.Core.Bool.{Bool}
use mathlib.Core.List.{List}
use Prim.Native.Nat.{ℕ, ◌+◌, ◌<◌, ◌≤◌}
use lib.ListN.{length}
use Rattle.rules.specs.Words.{word, SR0, relocates}
use Rattle.rules.specs.Step.{step}
use Rattle.rules.specs.declared.Event.{Event}
use Rattle.rules.specs.declared.Refusal.{Refusal}
use Rattle.records.specs.declared.Cursor.{Cursor}
use Rattle.pieces.specs.Limit.{seen_at, seen_from}
use Rattle.pieces.proofs.SeenFrom.{every_seen, seen-advances}
use Rattle.auditing.specs.Verdicts.{verdict_of}
use Rattle.account.specs.Surveys.{course, trail}
use Rattle.account.specs.Turns.{tally_after}

module _ (beyond last : Bool) (s : List ℕ) (base at : ℕ) (tally : Tally) (l : List ℕ) where
  pub trail_end : seen_at beyond last s at ≡ Ok None → trail base (seen_from beyond last s at) at tally l ≡ (course tally at (Ok tt), l)
  unfolding trail
  trail_end e = rw (every_seen beyond last s at, e)

  pub trail_refused : (r : Refusal) → seen_at beyond last s at ≡ Err r
      → trail base (seen_from beyond last s at) at tally l ≡ (course tally at (Err r), l)
  unfolding trail
  trail_refused r e = rw (every_seen beyond last s at, e)

  pub trail_event : (v : Event) (c : Cursor) → seen_at beyond last s at ≡ Ok (Some (v, c))
      → trail base (seen_from beyond last s at) at tally l
      ≡ trail base (seen_from beyond last s c.at) c.at
      (tally_after tally (verdict_of l v) (relocates (word (step l v).1 SR0)) (base + at) (base + c.at)) (step l v).1
  unfolding trail
  trail_event v c e = rw (every_seen beyond last s at, e)

-- a record ends past its start and within the bytes
pub trail_advances : (beyond last : Bool) (s : List ℕ) (at : ℕ) (v : Event) (c : Cursor) → seen_at beyond last s at ≡ Ok (Some (v, c))
    → (at < c.at) × (c.at ≤ length s)
trail_advances = seen-advances
