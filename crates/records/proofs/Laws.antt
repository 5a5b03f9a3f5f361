-- What stands at a place, by the tests that lead there; and that a whole record ends past its start and within the recording.
use Rattle.std.proofs.Common.{Ok, Err, Some, None}
use mathlib.Core.Path.{◌≡◌, refl, sym, ap, ◌∙◌}
use mathlib.Core.Bool.{Bool, true, false}
use mathlib.Core.List.{List}
use Prim.Native.Nat.{ℕ, ◌+◌, ◌<◌, ◌≤◌}
use native.Mathlib.Omega.{arith}
use lib.ListN.{length}
use lib.Dec.{ltb, leb}
use borrow.Author.Tests.{lt-ltb, le-ltb, le-leb, lt-leb, leb-true, leb-false, ltb-true, ltb-false}
use Rattle.rules.specs.declared.Event.{Event}
use Rattle.rules.specs.declared.Refusal.TheVariants.{Kind, Cut}
use Rattle.records.specs.Bytes.{byte_at}
use Rattle.records.specs.Kinds.{known, body_of}
use Rattle.records.specs.Records.{Found, event_of, record_at}
use Rattle.records.specs.declared.Cursor.{Cursor}

pub known-above : (k : ℕ) → (k ≡ 0 → ⊥) → 7 < k → known k ≡ false
known-above k n h = rw (lt-ltb 0 k (omega arith), lt-leb k 7 h)

module _ (s : List ℕ) (at : ℕ) where
  pub at-end : length s ≤ at → record_at s at ≡ Ok None
  unfolding record_at
  at-end h = rw (le-ltb at (length s) h)

  pub at-unknown : at < length s → known (byte_at s at) ≡ false → record_at s at ≡ Err Kind
  unfolding record_at
  at-unknown h k = rw (lt-ltb at (length s) h, k)

  pub at_cut : at < length s → known (byte_at s at) ≡ true → length s < at + 1 + body_of (byte_at s at) → record_at s at ≡ Err Cut
  unfolding record_at
  at_cut h k l = rw (lt-ltb at (length s) h, k, lt-leb _ _ l)

  pub at-whole : at < length s → known (byte_at s at) ≡ true → at + 1 + body_of (byte_at s at) ≤ length s
      → record_at s at ≡ Ok (Some (event_of (byte_at s at) s (at + 1), record { at = at + 1 + body_of (byte_at s at) }))
  unfolding record_at
  at-whole h k l = rw (lt-ltb at (length s) h, k, le-leb _ _ l)

-- what stands at a place, with the tests that tell it
pub data Stands (s : List ℕ) (at : ℕ) : Type 0 where
  none : length s ≤ at → Stands s at
  unknown : at < length s → known (byte_at s at) ≡ false → Stands s at
  cut : at < length s → known (byte_at s at) ≡ true → length s < at + 1 + body_of (byte_at s at) → Stands s at
  whole : at < length s → known (byte_at s at) ≡ true → at + 1 + body_of (byte_at s at) ≤ length s → Stands s at

pub stands : (s : List ℕ) (at : ℕ) → Stands s at
stands s at = by (ltb at (length s)) (known (byte_at s at)) (leb (at + 1 + body_of (byte_at s at)) (length s)) refl refl refl
  where
    by : (a k b : Bool) → ltb at (length s) ≡ a → known (byte_at s at) ≡ k → leb (at + 1 + body_of (byte_at s at)) (length s) ≡ b → Stands s at
    by false k b ea ek eb = none (ltb-false at (length s) ea)
    by true false b ea ek eb = unknown (ltb-true at (length s) ea) ek
    by true true false ea ek eb = cut (ltb-true at (length s) ea) ek (leb-false _ (length s) eb)
    by true true true ea ek eb = whole (ltb-true at (length s) ea) ek (leb-true _ (length s) eb)

pub end-tells : (s : List ℕ) (at : ℕ) → record_at s at ≡ Ok None → length s ≤ at
end-tells s at h = of (stands s at)
  where
    of : Stands s at → length s ≤ at
    of (none a) = a
    of (unknown a k) = let e = at-unknown s at a k in cc
    of (cut a k l) = let e = at_cut s at a k l in cc
    of (whole a k w) = let e = at-whole s at a k w in cc

-- what a whole record at a place tells
pub record WholeAt (s : List ℕ) (at : ℕ) (e : Event) (next : ℕ) : Type 0 where
  pub kind : known (byte_at s at) ≡ true
  pub place : next ≡ at + 1 + body_of (byte_at s at)
  pub ends : next ≤ length s
  pub read : e ≡ event_of (byte_at s at) s (at + 1)

pub whole_tells : (s : List ℕ) (at : ℕ) (e : Event) (c : Cursor) → record_at s at ≡ Ok (Some (e, c)) → WholeAt s at e c.at
whole_tells s at e c h = of (stands s at)
  where
    of : Stands s at → WholeAt s at e c.at
    of (none a) = let e = at-end s at a in cc
    of (unknown a k) = let e = at-unknown s at a k in cc
    of (cut a k l) = let e = at_cut s at a k l in cc
    of (whole a k w) =
        let next = at + 1 + body_of (byte_at s at) in
        let same : ◌≡◌ {A = Found} (Ok (Some (e, c))) (Ok (Some (event_of (byte_at s at) s (at + 1), record { at = next }))) = sym h ∙ at-whole s at a k w in
        let p : ◌≡◌ {A = Event × Cursor} (e, c) (event_of (byte_at s at) s (at + 1), record { at = next }) = cc in
        let n : c.at ≡ next = ap (λ (x : Event × Cursor). x.1.at) p in
        record { kind = k; place = n; ends = rw n w; read = ap (λ (x : Event × Cursor). x.0) p }

pub advances : (s : List ℕ) (at : ℕ) (e : Event) (c : Cursor) → record_at s at ≡ Ok (Some (e, c)) → (at < c.at) × (c.at ≤ length s)
advances s at e c h = let k = whole_tells s at e c h in (omega (arith, k.place), k.ends)
