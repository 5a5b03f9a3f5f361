-- A record read in a part of a recording: in what is left of it from a place on, and in the front of it. By what stands there.
use mathlib.Core.Path.{◌≡◌, refl, sym, ◌∙◌}
use mathlib.Core.Bool.{true, false, false≢true}
use mathlib.Core.List.{List, ◌++◌}
use Prim.Native.Nat.{ℕ, zero, suc, ◌+◌, ◌-◌, ◌<◌, ◌≤◌}
use native.Mathlib.Omega.{arith}
use lib.ListN.{length, drop, get_or, length-append, get_or-append}
use lib.Seq.{get_or-drop}
use lib.Dec.{lit≤}
use Rattle.records.specs.Bytes.{byte_at, low_first}
use Rattle.records.specs.Kinds.{bodies, known, body_of}
use Rattle.records.specs.Records.{event_of, record_at}
use Rattle.records.proofs.Laws.{known-above, at-unknown, at-whole}
pub use Rattle.records.proofs.Laws.{Stands, none, unknown, cut, whole, stands}

-- no body is longer than a reference's
pub body_most : (kind : ℕ) → body_of kind ≤ 6
body_most kind = of (kind - 1)
  where
    of : (i : ℕ) → get_or bodies i 0 ≤ 6
    of zero = lit≤ tt
    of (suc zero) = lit≤ tt
    of (suc (suc zero)) = lit≤ tt
    of (suc (suc (suc zero))) = lit≤ tt
    of (suc (suc (suc (suc zero)))) = lit≤ tt
    of (suc (suc (suc (suc (suc zero))))) = lit≤ tt
    of (suc (suc (suc (suc (suc (suc zero)))))) = lit≤ tt
    of (suc (suc (suc (suc (suc (suc (suc i))))))) = lit≤ tt

plus_assoc : (a b c : ℕ) → a + (b + c) ≡ a + b + c
plus_assoc a b c = omega arith

-- from a place on
pub event-drop : (kind : ℕ) (s : List ℕ) (m at : ℕ) → event_of kind s (m + at) ≡ event_of kind (drop m s) at
unfolding event_of
event-drop kind s m at = sym (simp (get_or-drop, plus_assoc))

-- in the front
module _ (s t : List ℕ) where
  byte-front : (at : ℕ) → at < length s → byte_at (s ++ t) at ≡ byte_at s at
  byte-front at h = get_or-append s t 0 at h

  low-front : (n at : ℕ) → at + n ≤ length s → low_first n (s ++ t) at ≡ low_first n s at
  low-front zero at h = refl
  low-front (suc n) at h = rw (byte-front at (omega arith), low-front n (at + 1) (omega arith))

  event-front : (kind at : ℕ) → known kind ≡ true → at + body_of kind ≤ length s → event_of kind (s ++ t) at ≡ event_of kind s at
  unfolding event_of
  event-front zero at k h = cc
  event-front (suc zero) at k h =
      rw (
        byte-front at (omega arith),
        byte-front (at + 1) (omega arith),
        byte-front (at + 2) (omega arith),
        byte-front (at + 3) (omega arith),
        low-front 2 (at + 4) (omega arith),
      )
  event-front (suc (suc zero)) at k h = rw (low-front 3 at (omega arith))
  event-front (suc (suc (suc zero))) at k h = rw (low-front 3 at (omega arith), low-front 2 (at + 3) (omega arith))
  event-front (suc (suc (suc (suc zero)))) at k h = rw (low-front 2 at (omega arith))
  event-front (suc (suc (suc (suc (suc zero))))) at k h = rw (low-front 2 at (omega arith))
  event-front (suc (suc (suc (suc (suc (suc zero)))))) at k h = rw (byte-front at (omega arith), byte-front (at + 1) (omega arith))
  event-front (suc (suc (suc (suc (suc (suc (suc zero))))))) at k h = refl
  event-front (suc (suc (suc (suc (suc (suc (suc (suc n)))))))) at k h =
      absurd (false≢true (sym (known-above (suc (suc (suc (suc (suc (suc (suc (suc n)))))))) (λ z. omega (arith, z)) (omega arith)) ∙ k))

  pub front-unknown : (at : ℕ) → at < length s → known (byte_at s at) ≡ false → record_at (s ++ t) at ≡ record_at s at
  front-unknown at h k =
      rw (at-unknown s at h k, at-unknown (s ++ t) at (omega (arith, length-append s t)) (rw (byte-front at h) k))

  pub front-whole : (at : ℕ) → at < length s → known (byte_at s at) ≡ true → at + 1 + body_of (byte_at s at) ≤ length s
      → record_at (s ++ t) at ≡ record_at s at
  front-whole at h k w =
      let b = byte-front at h in
      let n = length-append s t in
      let e : event_of (byte_at s at) (s ++ t) (at + 1) ≡ event_of (byte_at s at) s (at + 1) = event-front (byte_at s at) (at + 1) k w in
      rw (at-whole s at h k w, at-whole (s ++ t) at (omega (arith, n)) (rw b k) (rw b (omega (arith, n))), b, e)
