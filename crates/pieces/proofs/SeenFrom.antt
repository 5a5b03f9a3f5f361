-- The records inside the limit, record by record: only the last of them is another.
use Rattle.std.proofs.Common.{Ok, Err, Some, None}
use mathlib.Core.Path.{◌≡◌, refl}
use mathlib.Core.Bool.{Bool, true, false, cond}
use mathlib.Core.List.{List}
use Prim.Native.Nat.{ℕ, zero, suc, ◌-◌, ◌<◌, ◌≤◌}
use native.Mathlib.Omega.{arith}
use lib.ListN.{length}
use lib.Dec.{eqb}
use Rattle.rules.specs.Paper.{number}
use Rattle.rules.specs.declared.Event.{Event}
use Rattle.rules.specs.declared.Refusal.{Refusal}
use Rattle.rules.specs.declared.Refusal.TheVariants.{Long}
use Rattle.records.specs.Records.{record_at, Found}
use Rattle.records.specs.Recordings.{Records, event, end, refusal, before, records_from}
use Rattle.records.specs.declared.Cursor.{Cursor}
use Rattle.records.proofs.Laws.{advances}
use Rattle.records.proofs.Recordings.{every_record}
use Rattle.pieces.specs.Limit.{ending, ended, seen_at, seen_from, EverySeen}

-- where no whole record stands, what follows plays no part
module _ (f g : ℕ → Records) where
  at-end : (beyond last : Bool) → before (ending beyond last (Ok None)) f ≡ before (ending beyond last (Ok None)) g
  at-end true last = refl
  at-end false last = refl

  at-refusal : (cut beyond last : Bool) (r : Refusal)
      → before (cond cut (cond beyond (Err Long) (cond last (Err r) (Ok None))) (Err r)) f
      ≡ before (cond cut (cond beyond (Err Long) (cond last (Err r) (Ok None))) (Err r)) g
  at-refusal true true last r = refl
  at-refusal true false true r = refl
  at-refusal true false false r = refl
  at-refusal false beyond last r = refl

of : (beyond last : Bool) (x : Found) (f : ℕ → Records) → ended beyond last (before x f) ≡ before (ending beyond last x) (λ at. ended beyond last (f at))
of beyond last (Ok (Some (e, next))) f = refl
of beyond last (Ok None) f = at-end (λ at. end) (λ at. ended beyond last (f at)) beyond last
of beyond last (Err r) f = at-refusal (λ at. end) (λ at. ended beyond last (f at)) (eqb (number r) 12) beyond last r

pub every_seen : EverySeen
every_seen beyond last s at = rw (every_record s at) (of beyond last (record_at s at) (records_from s))

-- a whole record is as it stands
whole_of : (beyond last : Bool) (x : Found) (v : Event) (c : Cursor) → ending beyond last x ≡ Ok (Some (v, c)) → x ≡ Ok (Some (v, c))
whole_of beyond last (Ok (Some (e, next))) v c h = h
whole_of beyond last (Ok None) v c h = absurd (by beyond h)
  where
    by : (b : Bool) → cond {A = Found} b (Err Long) (Ok None) ≡ Ok (Some (v, c)) → ⊥
    by true q = cc
    by false q = cc
whole_of beyond last (Err r) v c h = absurd (by (eqb (number r) 12) beyond last h)
  where
    by : (cut b l : Bool) → cond {A = Found} cut (cond b (Err Long) (cond l (Err r) (Ok None))) (Err r) ≡ Ok (Some (v, c)) → ⊥
    by true true l q = cc
    by true false true q = cc
    by true false false q = cc
    by false b l q = cc

pub seen-whole : (beyond last : Bool) (s : List ℕ) (at : ℕ) (v : Event) (c : Cursor) → seen_at beyond last s at ≡ Ok (Some (v, c)) → record_at s at ≡ Ok (Some (v, c))
seen-whole beyond last s at v c h = whole_of beyond last (record_at s at) v c h

pub seen-advances : (beyond last : Bool) (s : List ℕ) (at : ℕ) (v : Event) (c : Cursor) → seen_at beyond last s at ≡ Ok (Some (v, c))
    → (at < c.at) × (c.at ≤ length s)
seen-advances beyond last s at v c h = advances s at v c (seen-whole beyond last s at v c h)

-- induction over what is seen from a place on: each record ends past its start and within the bytes
module _ (beyond last : Bool) (s : List ℕ) (P : ℕ → Records → Type 0)
    (at_none : (at : ℕ) → seen_at beyond last s at ≡ Ok None → P at end)
    (at-refused : (at : ℕ) (r : Refusal) → seen_at beyond last s at ≡ Err r → P at (refusal r))
    (at-whole : (at : ℕ) (v : Event) (c : Cursor) → seen_at beyond last s at ≡ Ok (Some (v, c)) → P c.at (seen_from beyond last s c.at)
    → P at (event v c.at (seen_from beyond last s c.at))) where
  by-found : (n at : ℕ) (x : Found) → seen_at beyond last s at ≡ x → length s - at ≤ suc n
      → ((at' : ℕ) → length s - at' ≤ n → P at' (seen_from beyond last s at')) → P at (before x (seen_from beyond last s))
  by-found n at (Ok None) e h next = at_none at e
  by-found n at (Err r) e h next = at-refused at r e
  by-found n at (Ok (Some (v, c))) e h next =
      let a = seen-advances beyond last s at v c e in
      at-whole at v c e (next c.at (omega (arith, a)))

  within_bound : (n at : ℕ) → length s - at ≤ n → P at (seen_from beyond last s at)
  within_bound zero at h = rw (every_seen beyond last s at) (by-none at (seen_at beyond last s at) refl h)
    where
      by-none : (at : ℕ) (x : Found) → seen_at beyond last s at ≡ x → length s - at ≤ 0 → P at (before x (seen_from beyond last s))
      by-none at (Ok None) e h = at_none at e
      by-none at (Err r) e h = at-refused at r e
      by-none at (Ok (Some (v, c))) e h = let a = seen-advances beyond last s at v c e in absurd (omega (arith, a))
  within_bound (suc n) at h =
      rw (every_seen beyond last s at) (by-found n at (seen_at beyond last s at) refl h (within_bound n))

  pub by-seen : (at : ℕ) → P at (seen_from beyond last s at)
  by-seen at = within_bound (length s - at) at (omega arith)
