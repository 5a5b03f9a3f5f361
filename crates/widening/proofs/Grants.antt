-- With relocation on, a reference is granted exactly if it is not refused, its mode is legal and its page does not abort it; a wider map keeps that,
-- with byte and page.
use mathlib.Core.Path.{◌≡◌, refl, sym, ◌∙◌}
use Rattle.std.specs.declared.option.Option.{Option}
use Rattle.std.proofs.Common.{Some}
use mathlib.Core.Bool.{Bool, true, false, cond, ◌&&◌, ◌||◌, false≢true, true≢false}
use mathlib.Core.List.{List}
use Prim.Native.Nat.{ℕ, ◌≤◌}
use native.Mathlib.Omega.{arith}
use lib.Dec.{eqb, ltb, leb}
use lib.ListN.{length}
use borrow.Author.Tests.{eqb-true, eq-eqb, le-ltb, leb-true, ltb-false}
use Rattle.page.specs.Fields.{length_of, ed_of, block_of}
use Rattle.page.specs.Length.{length_error}
use Rattle.page.specs.Sum.{byte_of}
use Rattle.rules.specs.Keys.{key_of, read_only}
use Rattle.rules.specs.Words.{word, PDR, SR0}
use Rattle.rules.specs.References.{page_for, aborts, traps, non_resident_flag}
use Rattle.rules.specs.Refusals.{refusal_of, lowest, of_reference}
use Rattle.rules.specs.declared.Reference.{Reference}
use Rattle.rules.specs.declared.Event.TheVariants.{Refer}
use Rattle.widening.specs.LastMap.{On, Granted, in_phase}
use Rattle.rules.proofs.Bools.{page-small}
use Rattle.rules.proofs.Referring.{answer, answered, granted-tells}
use Rattle.widening.proofs.Wider.{PageWider, Wider}

-- what a grant at a byte by a page comes to
pub record Grant (l : List ℕ) (r : Reference) (byte : ℕ) (served : Option ℕ) : Type 0 where
  pub accepts : lowest (of_reference r) ≡ 0
  pub legal : eqb r.mode 2 ≡ false
  pub free : aborts (word l (PDR (page_for l r))) (eqb r.access 1) r.va ≡ false
  pub lies : byte ≡ byte_of (word l (page_for l r)) r.va
  pub serves : served ≡ Some (page_for l r)

module _ (l : List ℕ) (r : Reference) where
  refusal-of : length l ≡ 100 → refusal_of l (Refer r) ≡ lowest (of_reference r)
  unfolding refusal_of
  refusal-of whole = rw (eq-eqb (length l) 100 whole)

  pub grant_of_lem : On l → (byte : ℕ) (served : Option ℕ) → Granted l r byte served → Grant l r byte served
  grant_of_lem o byte served g =
      let t = granted-tells l r byte g.0 served g.1 in
      let u = t.2 o.relocating in
      record {
        accepts = sym (refusal-of o.whole) ∙ eqb-true (refusal_of l (Refer r)) 0 t.0;
        legal = u.0;
        free = u.1;
        lies = u.2;
        serves = t.1 ∙ rw o.relocating;
      }

  pub granted-of : On l → (byte : ℕ) (served : Option ℕ) → Grant l r byte served → Granted l r byte served
  unfolding answer
  granted-of o byte served g = (
    traps (word l SR0) (word l (PDR (page_for l r))) (eqb r.access 1),
    answered l r ∙ rw (refusal-of o.whole, g.accepts, o.relocating, g.legal, g.free, g.lies, g.serves),
  )

-- the length test over its direction: n a block of no length error
length-kept : (b : Bool) (x y n : ℕ) → cond b (leb x y) (leb y x) ≡ true → cond b (ltb x n) (ltb n x) ≡ false → cond b (ltb y n) (ltb n y) ≡ false
length-kept true x y n w h = le-ltb y n (omega (arith, leb-true x y w, ltb-false x n h))
length-kept false x y n w h = le-ltb n y (omega (arith, leb-true y x w, ltb-false n x h))

pub no_length_error : {par pdr par' pdr' : ℕ} → PageWider par pdr par' pdr'
    → (block : ℕ) → length_error pdr block ≡ false → length_error pdr' block ≡ false
unfolding length_error
no_length_error {par} {pdr} {par'} {pdr'} w block h =
    rw w.ed (length-kept (eqb (ed_of pdr) 0) (length_of pdr) (length_of pdr') block w.blocks h)

-- no flag, taken apart and put together: n non-resident, e a length error, w a write, o read-only
pub no_flag : (n e w o : Bool) → (n || e || (w && o)) ≡ false → (n ≡ false) × (e ≡ false) × (w ≡ true → o ≡ false)
no_flag true e w o h = absurd (true≢false h)
no_flag false true w o h = absurd (true≢false h)
no_flag false false true o h = (refl, refl, λ z. h)
no_flag false false false o h = (refl, refl, λ z. absurd (false≢true z))

free-flag : (n e w o : Bool) → n ≡ false → e ≡ false → (w ≡ true → o ≡ false) → (n || e || (w && o)) ≡ false
free-flag n e true o a b c = rw (a, b) (c refl)
free-flag n e false o a b c = rw (a, b)

-- a mode, space, access and VA that are accepted are so in either phase: a, b, c, d the tests of the four numbers
accepts-phase : (a b c d e : Bool) → ◌≡◌ {A = ℕ} (cond a 2 (cond b 3 (cond c 4 (cond d 5 0)))) 0 → e ≡ false
    → ◌≡◌ {A = ℕ} (cond a 2 (cond b 3 (cond c 4 (cond e 5 0)))) 0
accepts-phase true b c d e h f = absurd (omega arith)
accepts-phase false true c d e h f = absurd (omega arith)
accepts-phase false false true d e h f = absurd (omega arith)
accepts-phase false false false d e h f = rw f

-- a wider map keeps every grant, at the same byte by the same page
pub grant_kept : (l m : List ℕ) → Wider l m → (r : Reference) (byte : ℕ) (served : Option ℕ) → Grant l r byte served
    → (phase : ℕ) → phase ≤ 1 → Grant m (in_phase phase r) byte served
grant_kept l m w r byte served g phase small =
    let p = page_for l r in
    let pdr = word l (PDR p) in
    let t = no_flag (non_resident_flag pdr) (length_error pdr (block_of r.va)) (eqb r.access 1) (read_only (key_of pdr)) g.free in
    let q = w.pages p (page-small l r) t.0 in
    let late = le-ltb 1 phase small in
    let same : page_for m r ≡ page_for l r = rw w.sr3 in
    record {
      accepts = accepts-phase (ltb 3 r.mode) (ltb 1 r.space) (ltb 1 r.access) (ltb 1 r.phase) (ltb 1 phase) g.accepts late;
      legal = g.legal;
      free = rw same (free-flag _ _ (eqb r.access 1) _ q.resident (no_length_error q (block_of r.va) t.1) (λ e. q.writable (t.2 e)));
      lies = g.lies ∙ rw (same, q.base);
      serves = g.serves ∙ rw same;
    }
