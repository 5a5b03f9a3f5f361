-- A number that gives a kind is known and is the kind's; one that gives none is not known. By the tests of both definitions.
use Rattle.std.proofs.Common.{Ok, Err, Some}
use mathlib.Core.Path.{◌≡◌}
use mathlib.Core.Bool.{true, false}
use mathlib.Core.List.{List}
use Prim.Native.Nat.{ℕ, ◌+◌, ◌-◌, ◌<◌, ◌≤◌}
use native.Mathlib.Omega.{arith}
use lib.ListN.{length}
use Rattle.std.proofs.lemmas.Bool.Decides.{nat_tests}
use Rattle.rules.specs.declared.Event.{Event}
use Rattle.rules.specs.declared.Refusal.{Refusal}
use Rattle.rules.specs.declared.Refusal.TheVariants.{Kind as Unknown, Cut}
use Rattle.records.specs.Bytes.{byte_at}
use Rattle.records.specs.Kinds.{known, body_of, kind_number, kind_of}
use Rattle.records.specs.Records.{Found, event_of, record_at}
use Rattle.records.specs.declared.Kind.{Kind}
use Rattle.records.proofs.Laws.{at_cut, at-whole}

pub kind_tells : (n : ℕ) (k : Kind) → kind_of n ≡ Ok k → (known n ≡ true) × (kind_number k ≡ n)
unfolding kind_of
kind_tells n k h = (grind (arith, nat_tests), grind (arith, nat_tests))

pub unknown_tells : (n : ℕ) (r : Refusal) → kind_of n ≡ Err r → (known n ≡ false) × (r ≡ Unknown)
unfolding kind_of
unknown_tells n r h = (grind (arith, nat_tests), grind (arith, nat_tests))

-- so what stands at a place goes by the kind of the byte there
module _ (s : List ℕ) (at n : ℕ) (h : at < length s) (b : n ≡ byte_at s at) where
  pub cut-at : (k : Kind) → kind_of n ≡ Ok k → length s - (at + 1) < body_of (kind_number k) → Err Cut ≡ record_at s at
  cut-at k e l = let t = kind_tells n k e in rw (at_cut s at h (rw (← b) t.0) (rw (← b) (omega (arith, rw t.1 at l))))

  pub whole_at : (k : Kind) → kind_of n ≡ Ok k → (body : ℕ) → body ≡ body_of (kind_number k) → body ≤ length s - (at + 1)
      → {e : Event} → e ≡ event_of (kind_number k) s (at + 1) → ◌≡◌ {A = Found} (Ok (Some (e, record { at = at + 1 + body }))) (record_at s at)
  whole_at k e body f l g =
      let t = kind_tells n k e in
      let w = at-whole s at h (rw (← b) t.0) (rw (← b) (omega (arith, rw t.1 at f, l))) in
      rw (w, g, f, t.1, b)
