-- Demand 3: from the wider map that a run leaves, and from the page and block by which a mode reaches.
use mathlib.Core.Path.{◌≡◌, refl}
use Rattle.std.specs.declared.option.Option.{Option}
use mathlib.Core.Bool.{Bool, true, false, cond, not, ◌&&◌, and-eq-true_iff}
use mathlib.Core.List.{List, ◌++◌}
use Prim.Native.Nat.{ℕ, zero, suc, ◌+◌, ◌*◌, ◌/◌, ◌≤◌, ◌<◌}
use native.Mathlib.Omega.{arith}
use lib.Dec.{eqb, ltb}
use borrow.Author.Tests.{eqb-false, ltb-false, not-true}
use Rattle.page.specs.Fields.{block_of, page_of}
use Rattle.page.specs.Length.{length_error}
use Rattle.rules.specs.Keys.{key_of, non_resident, read_only}
use Rattle.rules.specs.Words.{word, PDR, SR3, bit, enables_d}
use Rattle.rules.specs.References.{page_for, non_resident_flag}
use Rattle.rules.specs.declared.Reference.{Reference}
use Rattle.rules.specs.declared.Event.{Event}
use Rattle.widening.specs.Reaches.{is_mode, reaches}
use Rattle.widening.specs.Runs.{after, calm}
use Rattle.widening.specs.LastMap.{On, Granted, Kept, GrantsReached, ReachGrows, NeverShared, StaysOn, Demand3}
use Rattle.widening.proofs.Wider.{Wider}
use Rattle.rules.proofs.Bools.{first_small}
use Rattle.widening.proofs.Steps.{calm-append, stays_on_lem, later_wider}
use Rattle.widening.proofs.Grants.{grant_of_lem, granted-of, grant_kept, no_flag, no_length_error}
use Rattle.widening.proofs.Reached.{reached, reaching, apart_is}

pub stays_on : StaysOn
stays_on = stays_on_lem

pub kept : Kept
kept l o es fs h r byte served g phase small =
    let before = stays_on_lem l o es (calm-append l es fs h).0 in
    granted-of (after l (es ++ fs)) _ (stays_on_lem l o (es ++ fs) h) byte served
    (grant_kept (after l es) (after l (es ++ fs)) (later_wider l o es fs h) r byte served
    (grant_of_lem (after l es) r before byte served g) phase small)

-- a mode that is not refused and not 2
is_mode_lem : (m : ℕ) → m ≤ 3 → (m ≡ 2 → ⊥) → is_mode m ≡ true
is_mode_lem zero b n = refl
is_mode_lem (suc zero) b n = refl
is_mode_lem (suc (suc zero)) b n = absurd (n refl)
is_mode_lem (suc (suc (suc zero))) b n = refl
is_mode_lem (suc (suc (suc (suc m)))) b n = absurd (omega arith)

mode_small : (a : Bool) (n : ℕ) → ◌≡◌ {A = ℕ} (cond a 2 n) 0 → a ≡ false
mode_small true n h = absurd (omega arith)
mode_small false n h = refl

-- rule 3 stays within the sets SR3 lets the mode use: s the space is data, e SR3 enables D
in_sets : (s e : Bool) (p : ℕ) → p < 8 → 8 * bit (s && e) + p < cond e 16 8
in_sets true true p h = omega arith
in_sets true false p h = omega arith
in_sets false true p h = omega arith
in_sets false false p h = omega arith

pub grants_reached : GrantsReached
grants_reached l o r byte served given =
    let g = grant_of_lem l r o byte served given in
    let page = page_for l r in
    let pdr = word l (PDR page) in
    let sr3 = word l SR3 in
    let t = no_flag (non_resident_flag pdr) (length_error pdr (block_of r.va)) (eqb r.access 1) (read_only (key_of pdr)) g.free in
    let small = ltb-false 3 r.mode (mode_small (ltb 3 r.mode) _ g.accepts) in
    reaching l r.mode (byte / 64) page (block_of r.va)
    (record {
      legal = is_mode_lem r.mode small (eqb-false r.mode 2 g.legal);
      first = omega arith;
      last = omega (arith, in_sets (eqb r.space 1) (enables_d sr3 r.mode) (page_of r.va) (omega arith));
      within = omega arith;
      allowed = rw (t.0, t.1);
      lies = rw g.lies (omega arith);
    })

pages-small : (x : Bool) → cond x 16 8 ≤ 16
pages-small true = omega arith
pages-small false = omega arith

reach_kept : (l m : List ℕ) → Wider l m → (mode block : ℕ) → reaches l mode block ≡ true → reaches m mode block ≡ true
reach_kept l m w mode block h =
    let u = reached l mode block h in
    let page = u.0 in
    let b = u.1 in
    let r = u.2 in
    let pdr = word l (PDR page) in
    let small : page < 48 = omega (arith, r.last, first_small (eqb mode 0) (eqb mode 1), pages-small (enables_d (word l SR3) mode)) in
    let t = (and-eq-true_iff (not (non_resident (key_of pdr))) (not (length_error pdr b))).0 r.allowed in
    let q = w.pages page small (not-true _ t.0) in
    reaching m mode block page b
    (record {
      legal = r.legal;
      first = r.first;
      last = rw w.sr3 r.last;
      within = r.within;
      allowed = rw (q.resident, no_length_error q b (not-true _ t.1));
      lies = rw q.base r.lies;
    })

pub reach_grows : ReachGrows
reach_grows l o es fs h mode block =
    reach_kept (after l es) (after l (es ++ fs)) (later_wider l o es fs h) mode block

-- what is granted at a point of the run is reached in the last map
granted-last : (l : List ℕ) → On l → (run es fs : List Event) → run ≡ es ++ fs → calm l run ≡ true
    → (r : Reference) (byte : ℕ) (served : Option ℕ) → Granted (after l es) r byte served → reaches (after l run) r.mode (byte / 64) ≡ true
granted-last l o run es fs e h r byte served g =
    let c : calm l (es ++ fs) ≡ true = rw e at h in
    rw e (reach_grows l o es fs c r.mode (byte / 64) (grants_reached (after l es) (stays_on_lem l o es (calm-append l es fs c).0) r byte served g))

pub never_shared : NeverShared
never_shared l o run es fs gs hs e f h a r q byte served other x y =
    (apart_is (after l run)).0 a r.mode q.mode (byte / 64) (granted-last l o run es fs e h r byte served x)
    (granted-last l o run gs hs f h q byte other y)

pub demand3 : Demand3
demand3 = record { kept = kept; never_shared = never_shared }
