-- A record in two parts of a recording: read from its first seven bytes, it stands as in the whole, so many bytes further on.
use Rattle.std.proofs.Common.{Ok, Err, Some, None}
use mathlib.Core.Path.{◌≡◌, sym, ap, ◌∙◌}
use mathlib.Core.List.{List, ◌++◌}
use Prim.Native.Nat.{ℕ, ◌+◌, ◌-◌, ◌≤◌}
use native.Mathlib.Omega.{arith}
use lib.ListN.{length, take, drop, length-drop, length-take, take-append-drop}
use lib.Seq.{get_or-drop, take_all, drop-append_seam}
use Rattle.records.specs.Bytes.{byte_at}
use Rattle.records.specs.Kinds.{body_of}
use Rattle.records.specs.Records.{event_of, record_at, Found}
use Rattle.records.proofs.Laws.{at-end, at-unknown, at_cut, at-whole, advances}
use Rattle.records.proofs.Parts.{Stands, none, unknown, cut, whole, stands, body_most, event-drop, front-unknown, front-whole}
use Rattle.pieces.specs.Held.{longest_record}
use Rattle.pieces.specs.Moved.{moved, end_of}

module _ (n : ℕ) (s : List ℕ) (at : ℕ) where
  byte : byte_at (drop n s) at ≡ byte_at s (n + at)
  byte = get_or-drop n s at 0

  of : Stands (drop n s) at → record_at s (n + at) ≡ moved n (record_at (drop n s) at)
  of (none h) = rw (at-end (drop n s) at h, at-end s (n + at) (omega (arith, length-drop n s)))
  of (unknown h k) =
      rw (at-unknown (drop n s) at h k, at-unknown s (n + at) (omega (arith, length-drop n s)) (rw (← byte) k))
  of (cut h k l) =
      rw (
        at_cut (drop n s) at h k l,
        at_cut s (n + at) (omega (arith, length-drop n s)) (rw (← byte) k) (rw (← byte) (omega (arith, length-drop n s))),
      )
  of (whole h k l) =
      let assoc : n + (at + 1) ≡ n + at + 1 = omega arith in
      let e : event_of (byte_at s (n + at)) s (n + at + 1) ≡ event_of (byte_at s (n + at)) (drop n s) (at + 1) =
      rw (← assoc) (event-drop (byte_at s (n + at)) s n (at + 1)) in
      let p : n + at + 1 + body_of (byte_at s (n + at)) ≡ n + (at + 1 + body_of (byte_at s (n + at))) = omega arith in
      rw (
        at-whole (drop n s) at h k l,
        byte,
        at-whole s (n + at) (omega (arith, length-drop n s)) (rw (← byte) k) (rw (← byte) (omega (arith, length-drop n s))),
        e,
        p,
      )

  -- what is left from a place on has the record as it stands, so many bytes further back
  pub dropped : record_at s (n + at) ≡ moved n (record_at (drop n s) at)
  dropped = of (stands (drop n s) at)

-- the first seven bytes hold the first record
module _ (s : List ℕ) where
  front : List ℕ
  front = take longest_record s

  seven : Stands front 0 → record_at s 0 ≡ record_at front 0
  unfolding front
  seven (none h) = rw (take_all longest_record s (omega (arith, length-take longest_record s)))
  seven (unknown h k) =
      sym (ap (λ (x : List ℕ). record_at x 0) (take-append-drop longest_record s)) ∙ front-unknown (take longest_record s) (drop longest_record s) 0 h k
  seven (cut h k l) =
      rw (take_all longest_record s (omega (arith, length-take longest_record s, body_most (byte_at (take longest_record s) 0))))
  seven (whole h k l) =
      sym (ap (λ (x : List ℕ). record_at x 0) (take-append-drop longest_record s)) ∙ front-whole (take longest_record s) (drop longest_record s) 0 h k l

  pub first-seven : record_at s 0 ≡ record_at (take longest_record s) 0
  unfolding front
  first-seven = seven (stands front 0)

-- so a record across the seam is read from seven bytes
pub across : (s : List ℕ) (at : ℕ) → record_at s at ≡ moved at (record_at (take longest_record (drop at s)) 0)
across s at =
    ap (λ (i : ℕ). record_at s i) (omega arith) ∙ dropped at s 0 ∙ ap (moved at) (first-seven (drop at s))

-- and one in the back stands past the front
pub behind : (s t : List ℕ) (at : ℕ) → length s ≤ at → record_at (s ++ t) at ≡ moved (length s) (record_at t (at - length s))
behind s t at h =
    ap (λ (i : ℕ). record_at (s ++ t) i) (omega arith)
    ∙ dropped (length s) (s ++ t) (at - length s)
    ∙ ap (λ (x : List ℕ). moved (length s) (record_at x (at - length s))) (drop-append_seam s t)

-- a record ends within the bytes it is read from
pub end_within : (s : List ℕ) (at : ℕ) (x : Found) → x ≡ record_at s at → end_of x ≤ length s
end_within s at (Ok (Some (e, c))) h = (advances s at e c (sym h)).1
end_within s at (Err r) h = omega arith
end_within s at (Ok None) h = omega arith
