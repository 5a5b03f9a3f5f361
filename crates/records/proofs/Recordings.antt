-- The bound on the number of records cuts nothing off: a record is longer than nothing, so that any bound as large as what is left
-- of the recording gives the same records.
use Rattle.std.proofs.Common.{Ok, Err, Some, None}
use mathlib.Core.Path.{◌≡◌, refl, sym, ap, ◌∙◌}
use mathlib.Core.List.{List}
use Prim.Native.Nat.{ℕ, zero, suc, ◌-◌, ◌≤◌}
use native.Mathlib.Omega.{arith}
use lib.ListN.{length}
use Rattle.rules.specs.declared.Event.{Event}
use Rattle.records.specs.Records.{record_at, Found}
use Rattle.records.specs.Recordings.{Records, event, end, before, records_within, records_from, EveryRecord}
use Rattle.records.proofs.Laws.{at-end, advances}

module _ (s : List ℕ) where
  none_left : (n at : ℕ) → length s ≤ at → records_within n s at ≡ end
  unfolding records_within
  none_left zero at h = refl
  none_left (suc n) at h = rw (at-end s at h)

  same-before : (m n at : ℕ) (x : Found) → record_at s at ≡ x → length s - at ≤ suc m → length s - at ≤ suc n
      → ((at' : ℕ) → length s - at' ≤ m → length s - at' ≤ n → records_within m s at' ≡ records_within n s at')
      → before x (records_within m s) ≡ before x (records_within n s)
  same-before m n at (Ok None) e h k next = refl
  same-before m n at (Err x) e h k next = refl
  same-before m n at (Ok (Some (v, c))) e h k next =
      let a = advances s at v c e in
      ap (event v c.at) (next c.at (omega arith) (omega arith))

  any_bound : (m n at : ℕ) → length s - at ≤ m → length s - at ≤ n → records_within m s at ≡ records_within n s at
  unfolding records_within
  any_bound zero n at h k = sym (none_left n at (omega arith))
  any_bound (suc m) zero at h k = none_left (suc m) at (omega arith)
  any_bound (suc m) (suc n) at h k = same-before m n at (record_at s at) refl h k (any_bound m n)

pub every_record : EveryRecord
unfolding records_within
every_record s at = any_bound s (length s) (suc (length s)) at (omega arith) (omega arith)

-- what follows an event are the records from the place after it
pub follows : (s : List ℕ) (at : ℕ) (v : Event) (next : ℕ) (rest : Records) → records_from s at ≡ event v next rest → records_from s next ≡ rest
follows s at v next rest h = of (record_at s at) (sym (every_record s at) ∙ h)
  where
    of : (x : Found) → before x (records_from s) ≡ event v next rest → records_from s next ≡ rest
    of (Ok (Some (e, c))) q =
        let n : c.at ≡ next = cc in
        let r : records_from s c.at ≡ rest = cc in
        rw (← n) r
    of (Ok None) q = cc
    of (Err x) q = cc
