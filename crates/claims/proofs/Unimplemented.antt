-- Unimplemented bits play no part: on stores that agree on the implemented bits each event goes the same way, and keeps them alike.
use mathlib.Core.Path.{◌≡◌, refl, ap}
use mathlib.Core.Bool.{Bool, true, false, cond, ◌||◌}
use mathlib.Core.List.{List}
use Prim.Native.Nat.{ℕ, ◌+◌, ◌*◌, ◌%◌, ◌^◌, ◌<◌}
use native.Mathlib.Omega.{arith}
use lib.Dec.{eqb, ltb}
use lib.Bits.{bit_and, bit_or, or_comm, and_mask}
use lib.ListN.{set}
use borrow.Author.Tests.{lt-ltb, le-ltb, ltb-true}
use Rattle.page.specs.Fields.{block_of}
use Rattle.page.specs.Length.{length_error}
use Rattle.page.specs.Sum.{byte_of}
use Rattle.rules.specs.Words.{word, PDR, SR0, SR1, SR2, SR3, implemented, relocates, frozen}
use Rattle.rules.specs.Paper.{R}
use Rattle.rules.specs.Addresses.{register_at}
use Rattle.rules.specs.References.{
  uses_d,
  page_for,
  non_resident_flag,
  read_only_flag,
  condition,
  traps,
  marks_of,
  abort_flags,
  trap_flag,
  details,
  sr0_after,
  ruled,
  examined,
  illegal_mode,
  referred,
}
use Rattle.rules.specs.Registers.{written_at}
use Rattle.rules.specs.Others.{started, with_change, change_byte, noted, cleared}
use Rattle.rules.specs.Refusals.{refusal_of}
use Rattle.rules.specs.Step.{step, accepted}
use Rattle.rules.specs.declared.Reference.{Reference}
use Rattle.rules.specs.declared.Event.{Event}
use Rattle.rules.specs.declared.Event.TheVariants.{Refer, Read, Write, Instruction, Interrupt, Change, Init}
use Rattle.claims.specs.Demand2.{writing}
use Rattle.claims.specs.Unimplemented.{Alike, Unimplemented}
use Rattle.rules.proofs.Bools.{cond-first, cond-last}
use Rattle.claims.proofs.Marks.{before_status}
use Rattle.rules.proofs.Masks.{Same, same_or, same_and, same_low}
use Rattle.claims.proofs.Alike.{
  set-alike,
  cond-alike,
  pdr-same,
  base_same,
  key-same,
  length-same,
  sr0-same,
  on_same,
  enabled_same,
  frozen_same,
  enables-same,
  used_same,
}

-- SR0 afterwards, by the two tests
sr0-by : (none ice : Bool) (x y flags loaded : ℕ) → Same 0o171777 x y
    → Same 0o171777 (cond none x (bit_or (cond ice x (bit_or (bit_and x 0o177401) loaded)) flags))
    (cond none y (bit_or (cond ice y (bit_or (bit_and y 0o177401) loaded)) flags))
sr0-by true ice x y flags loaded h = h
sr0-by false true x y flags loaded h = same_or 0o171777 x y (omega arith) h flags
sr0-by false false x y flags loaded h =
    same_or 0o171777 (bit_or (bit_and x 0o177401) loaded) (bit_or (bit_and y 0o177401) loaded) (omega arith)
    (same_or 0o171777 (bit_and x 0o177401) (bit_and y 0o177401) (omega arith) (same_and 0o171777 x y (omega arith) h 0o177401) loaded) flags

-- the two ways in which a reference changes a store
abbrev flagged : List ℕ → ℕ → ℕ → List ℕ
flagged l flags loaded = set l SR0 (sr0_after (word l SR0) flags loaded)

abbrev marked : List ℕ → ℕ → ℕ → List ℕ
marked l page marks = set l (PDR page) (bit_or (word l (PDR page)) marks)

module _ (l m : List ℕ) (a : Alike l m) where
  sr0-alike : (flags loaded : ℕ) → Same 0o171777 (sr0_after (word l SR0) flags loaded) (sr0_after (word m SR0) flags loaded)
  sr0-alike flags loaded =
      rw (frozen_same l m a) (sr0-by (eqb flags 0) (frozen (word m SR0)) (word l SR0) (word m SR0) flags loaded (sr0-same l m a))

  flagged_alike : (flags loaded : ℕ) → Alike (flagged l flags loaded) (flagged m flags loaded)
  flagged_alike flags loaded =
      set-alike l m SR0 (sr0_after (word l SR0) flags loaded) (sr0_after (word m SR0) flags loaded) a (sr0-alike flags loaded)

  in_pdr : (page : ℕ) → page < 48 → (x y : ℕ) → Same 0o077717 x y → Same (implemented (PDR page)) x y
  in_pdr page small x y h = rw (le-ltb (48 + page) 48 (omega arith), lt-ltb (48 + page) 96 (omega arith)) h

  granted-alike : (page marks flags loaded : ℕ) → page < 48
      → Alike (set (marked l page marks) SR0 (sr0_after (word l SR0) flags loaded))
      (set (marked m page marks) SR0 (sr0_after (word m SR0) flags loaded))
  granted-alike page marks flags loaded small =
      set-alike (marked l page marks) (marked m page marks) SR0 (sr0_after (word l SR0) flags loaded) (sr0_after (word m SR0) flags loaded)
      (set-alike l m (PDR page) (bit_or (word l (PDR page)) marks) (bit_or (word m (PDR page)) marks) a
      (in_pdr page small (bit_or (word l (PDR page)) marks) (bit_or (word m (PDR page)) marks)
      (same_or 0o077717 (word l (PDR page)) (word m (PDR page)) (omega arith) (pdr-same l m a page small) marks)))
      (sr0-alike flags loaded)

  -- rules 4 to 9 at one page
  module _ (page : ℕ) (small : page < 48) (write : Bool) (loaded va : ℕ) where
    ruled-answer : (ruled l page write loaded va).0 ≡ (ruled m page write loaded va).0
    unfolding ruled
    ruled-answer =
        rw (key-same l m a page small, length-same l m a page small (block_of va), base_same l m a page small, enabled_same l m a)
        (simp cond-first)

    ruled-store : Alike (ruled l page write loaded va).1 (ruled m page write loaded va).1
    unfolding ruled
    ruled-store =
        let x = word m (PDR page) in
        let n = non_resident_flag x in
        let e = length_error x (block_of va) in
        let o = read_only_flag x write in
        let k = marks_of (byte_of (word m page) va) (condition x write) write in
        let t = trap_flag (traps (word m SR0) x write) in
        let f = abort_flags n e o in
        rw (key-same l m a page small, length-same l m a page small (block_of va), base_same l m a page small, enabled_same l m a)
        (simp cond-last
        (cond-alike (n || e || o) (flagged l f loaded) (set (marked l page k) SR0 (sr0_after (word l SR0) t loaded))
        (flagged m f loaded) (set (marked m page k) SR0 (sr0_after (word m SR0) t loaded)) (flagged_alike f loaded)
        (granted-alike page k t loaded small)))

  page-same : (r : Reference) → page_for l r ≡ page_for m r
  page-same r = rw (enables-same l m a r.mode)

  examined-answer : (r : Reference) → (examined l r).0 ≡ (examined m r).0
  unfolding examined
  examined-answer r =
      rw (enables-same l m a r.mode)
      (ruled-answer (page_for m r) (omega (arith, before_status m r)) (writing r)
      (details r.phase r.mode (uses_d (word m SR3) r.mode r.space) r.va) r.va)

  examined-store : (r : Reference) → Alike (examined l r).1 (examined m r).1
  unfolding examined
  examined-store r =
      rw (enables-same l m a r.mode)
      (ruled-store (page_for m r) (omega (arith, before_status m r)) (writing r)
      (details r.phase r.mode (uses_d (word m SR3) r.mode r.space) r.va) r.va)

  referred-answer : (r : Reference) → (referred l r).0 ≡ (referred m r).0
  unfolding referred illegal_mode
  referred-answer r = rw (on_same l m a) (simp (cond-first, examined-answer r))

  referred-store : (r : Reference) → Alike (referred l r).1 (referred m r).1
  unfolding referred illegal_mode
  referred-store r =
      let f = abort_flags true false false in
      let d = details r.phase 2 false r.va in
      rw (on_same l m a)
      (simp cond-last
      (cond-alike (relocates (word m SR0)) (cond (eqb r.mode 2) (flagged l f d) (examined l r).1) l
      (cond (eqb r.mode 2) (flagged m f d) (examined m r).1) m
      (cond-alike (eqb r.mode 2) (flagged l f d) (examined l r).1 (flagged m f d) (examined m r).1 (flagged_alike f d) (examined-store r))
      a))

  -- register writes
  value_alike : (p v : ℕ) → Alike (set l p v) (set m p v)
  value_alike p v = set-alike l m p v v a refl

  par-write : (p v : ℕ) (x : Bool) (k n : List ℕ) → ltb p 48 ≡ x → Alike k n
      → Alike (cond x (set (set l p v) (PDR p) (bit_and (word l (PDR p)) 0o177477)) k)
      (cond x (set (set m p v) (PDR p) (bit_and (word m (PDR p)) 0o177477)) n)
  par-write p v true k n e h =
      let small = ltb-true p 48 e in
      set-alike (set l p v) (set m p v) (PDR p) (bit_and (word l (PDR p)) 0o177477) (bit_and (word m (PDR p)) 0o177477) (value_alike p v)
      (in_pdr p small (bit_and (word l (PDR p)) 0o177477) (bit_and (word m (PDR p)) 0o177477)
      (same_and 0o077717 (word l (PDR p)) (word m (PDR p)) (omega arith) (pdr-same l m a p small) 0o177477))
  par-write p v false k n e h = h

  sr0-write : (v : ℕ) → Same 0o171777 (bit_or v (bit_and (word l SR0) 0o000376)) (bit_or v (bit_and (word m SR0) 0o000376))
  sr0-write v =
      rw (or_comm v (bit_and (word l SR0) 0o000376), or_comm v (bit_and (word m SR0) 0o000376))
      (same_or 0o171777 (bit_and (word l SR0) 0o000376) (bit_and (word m SR0) 0o000376) (omega arith)
      (same_and 0o171777 (word l SR0) (word m SR0) (omega arith) (sr0-same l m a) 0o000376) v)

  written-alike : (p v : ℕ) → Alike (written_at l p v) (written_at m p v)
  unfolding written_at
  written-alike p v =
      let s = bit_or (bit_and v 0o171401) (bit_and (word l SR0) 0o000376) in
      let t = bit_or (bit_and v 0o171401) (bit_and (word m SR0) 0o000376) in
      let rest : List ℕ → List ℕ = λ n. cond (eqb p SR3) (set n SR3 (bit_and v 0o000017)) n in
      par-write p (bit_and v 0o007777) (ltb p 48)
      (cond (ltb p 96) (set l p (bit_and v 0o077417)) (cond (eqb p SR0) (set l SR0 s) (rest l)))
      (cond (ltb p 96) (set m p (bit_and v 0o077417)) (cond (eqb p SR0) (set m SR0 t) (rest m))) refl
      (cond-alike (ltb p 96) (set l p (bit_and v 0o077417)) (cond (eqb p SR0) (set l SR0 s) (rest l))
      (set m p (bit_and v 0o077417)) (cond (eqb p SR0) (set m SR0 t) (rest m)) (value_alike p (bit_and v 0o077417))
      (cond-alike (eqb p SR0) (set l SR0 s) (rest l) (set m SR0 t) (rest m) (set-alike l m SR0 s t a (sr0-write (bit_and v 0o171401)))
      (cond-alike (eqb p SR3) (set l SR3 (bit_and v 0o000017)) l (set m SR3 (bit_and v 0o000017)) m (value_alike SR3 (bit_and v 0o000017)) a)))

  -- starts, changes and INIT
  started-alike : (n : ℕ) → Alike (started l n) (started m n)
  unfolding started
  started-alike n =
      rw (frozen_same l m a)
      (cond-alike (frozen (word m SR0)) l (set (set l SR1 0) SR2 n) m (set (set m SR1 0) SR2 n) a
      (set-alike (set l SR1 0) (set m SR1 0) SR2 n n (value_alike SR1 0) refl))

  sr1_same : word l SR1 % 2 ^ 16 ≡ word m SR1 % 2 ^ 16
  sr1_same = same_low 16 0o177777 (word l SR1) (word m SR1) refl (a.same SR1)

  change_by : (x : Bool) (b : ℕ) → Same 0o177777 (cond x (word l SR1 + b) (word l SR1 + b * 256)) (cond x (word m SR1 + b) (word m SR1 + b * 256))
  change_by true b = let h = sr1_same in rw (and_mask (word l SR1 + b) 16, and_mask (word m SR1 + b) 16) (omega arith)
  change_by false b = let h = sr1_same in rw (and_mask (word l SR1 + b * 256) 16, and_mask (word m SR1 + b * 256) 16) (omega arith)

  noted-alike : (b : ℕ) → Alike (noted l b) (noted m b)
  unfolding noted
  noted-alike b =
      let low = same_low 8 0o177777 (word l SR1) (word m SR1) refl (a.same SR1) in
      rw (frozen_same l m a)
      (cond-alike (frozen (word m SR0)) l (set l SR1 (with_change (word l SR1) b)) m (set m SR1 (with_change (word m SR1) b)) a
      (set-alike l m SR1 (with_change (word l SR1) b) (with_change (word m SR1) b) a (rw low (change_by (eqb (word m SR1 % 256) 0) b))))

  cleared-alike : Alike (cleared l) (cleared m)
  unfolding cleared
  cleared-alike =
      let one = value_alike SR0 0 in
      let two = set-alike (set l SR0 0) (set m SR0 0) SR1 0 0 one refl in
      let three = set-alike (set (set l SR0 0) SR1 0) (set (set m SR0 0) SR1 0) SR2 0 0 two refl in
      set-alike (set (set (set l SR0 0) SR1 0) SR2 0) (set (set (set m SR0 0) SR1 0) SR2 0) SR3 0 0 three refl

  -- every event
  refused-same : (e : Event) → refusal_of l e ≡ refusal_of m e
  unfolding refusal_of
  refused-same (Refer r) = rw a.long
  refused-same (Read address) = rw a.long
  refused-same (Write address value) = rw a.long
  refused-same (Instruction va) = rw a.long
  refused-same (Interrupt vector) = rw a.long
  refused-same (Change register amount) = rw (a.long, frozen_same l m a, used_same l m a)
  refused-same Init = rw a.long

  accepted-same : (e : Event) → ((accepted l e).0 ≡ (accepted m e).0) × Alike (accepted l e).1 (accepted m e).1
  unfolding accepted
  accepted-same (Refer r) = (referred-answer r, referred-store r)
  accepted-same (Read address) = (ap R (a.same (register_at address)), a)
  accepted-same (Write address value) = (refl, written-alike (register_at address) value)
  accepted-same (Instruction va) = (refl, started-alike va)
  accepted-same (Interrupt vector) = (refl, started-alike vector)
  accepted-same (Change register amount) = (refl, noted-alike (change_byte register amount))
  accepted-same Init = (refl, cleared-alike)

pub unimplemented : Unimplemented
unfolding step
unimplemented l m e a =
    let n = refusal_of m e in
    let q = accepted-same l m a e in (
      rw (refused-same l m a e) (simp (cond-first, q.0)),
      rw (refused-same l m a e) (simp cond-last (cond-alike (eqb n 0) (accepted l e).1 l (accepted m e).1 m q.1 a)),
    )
