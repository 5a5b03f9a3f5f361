-- The state that a feed leaves: its bytes, with those still to come after them, are the bytes from the place reached on; and how
-- many they are.
use mathlib.Core.Path.{◌≡◌, sym, ◌∙◌}
use mathlib.Core.Bool.{Bool, true, false}
use mathlib.Core.List.{List, ◌++◌, append_assoc}
use Prim.Native.Nat.{ℕ, ◌-◌, ◌≤◌}
use native.Mathlib.Omega.{arith}
use lib.ListN.{length, drop, length-append, length-drop, length-take, drop_of_length-le}
use lib.Seq.{take_all, drop-append-le}
use Rattle.pieces.specs.Held.{longest_record, bytes_of, held_of}
use Rattle.pieces.specs.Begun.{joined, Few, held_count, paused, holding, landed}
use Rattle.pieces.specs.declared.Begun.{Begun}
use Rattle.pieces.specs.declared.How.{How}
use Rattle.pieces.specs.declared.How.TheVariants.{Full, Spent, Stopped}
use Rattle.pieces.proofs.Lists.{drop-two}
use Rattle.pieces.proofs.Gathered.{held_bytes}

-- a few bytes are held whole
pub held-few : (xs : List ℕ) → length xs ≤ longest_record → bytes_of (held_of xs) ≡ xs
held-few xs h = held_bytes xs ∙ take_all longest_record xs h

module _ (b : Begun) (piece : List ℕ) (n : ℕ) (few : Few b) where
  few-left : length (drop n (bytes_of b.held)) ≤ longest_record
  few-left = omega (arith, length-drop n (bytes_of b.held), few)

  -- where a line does not fit
  pub paused-bytes : n ≤ length (joined b piece) → (more : List ℕ)
      → joined (paused b n).begun (drop (paused b n).taken piece ++ more) ≡ drop n (joined b (piece ++ more))
  paused-bytes h more =
      let held = bytes_of b.held in
      let k : n - length held ≤ length piece = omega (arith, h, length-append held piece) in
      rw (held-few (drop n held) few-left, drop-two n held (piece ++ more), drop-append-le (n - length held) piece more k)

  pub paused-count : held_count (paused b n).begun ≡ held_count b - n
  paused-count = rw (held-few (drop n (bytes_of b.held)) few-left) (length-drop n (bytes_of b.held))

  -- where no record is left
  pub holding-bytes : n ≤ length (joined b piece) → length (joined b piece) - n ≤ longest_record → (more : List ℕ)
      → joined (holding b piece n).begun (drop (length piece) piece ++ more) ≡ drop n (joined b (piece ++ more))
  holding-bytes h k more =
      let j = joined b piece in
      rw (
        held-few (drop n j) (omega (arith, length-drop n j, k)),
        drop_of_length-le piece {i = length piece} (omega arith),
        sym (append_assoc (bytes_of b.held) piece more),
      ) (sym (drop-append-le n j more h))

  pub holding-count : length (joined b piece) - n ≤ longest_record → held_count (holding b piece n).begun ≡ length (joined b piece) - n
  holding-count k =
      let j = joined b piece in
      rw (held-few (drop n j) (omega (arith, length-drop n j, k))) (length-drop n j)

-- at most seven bytes are held
few-held : (xs : List ℕ) → length (bytes_of (held_of xs)) ≤ longest_record
few-held xs = rw (held_bytes xs) (omega (arith, length-take longest_record xs))

pub few-landed : (b : Begun) (piece : List ℕ) (last : Bool) (at : ℕ) (h : How) → Few (landed b piece last at h).begun
unfolding landed
few-landed b piece last at Full = few-held _
few-landed b piece true at Spent = few-held _
few-landed b piece false at Spent = few-held _
few-landed b piece last at Stopped = few-held _
