-- Demand 2, "exactly": with relocation on an answer goes by mode, flags, sum, trap and page alone, as bools case by case.
use mathlib.Core.Path.{◌≡◌, refl, sym, ◌∙◌}
use Rattle.std.specs.declared.option.Option.{Option}
use mathlib.Core.Bool.{Bool, true, false, cond, not, ◌&&◌, ◌||◌, false≢true, true≢false}
use mathlib.Core.List.{List}
use Prim.Native.Nat.{ℕ}
use native.Mathlib.Omega.{arith}
use lib.ListN.{length}
use lib.Dec.{eqb}
use borrow.Author.Tests.{eq-eqb, le-ltb}
use Rattle.page.specs.Fields.{block_of}
use Rattle.page.specs.Length.{length_error}
use Rattle.page.specs.Sum.{byte_of}
use Rattle.rules.specs.Paper.{Paper, G, A}
use Rattle.rules.specs.Keys.{key_of, non_resident, read_only, right_of}
use Rattle.rules.specs.Words.{word, SR0}
use Rattle.rules.specs.References.{page_for, non_resident_flag, read_only_flag, traps}
use Rattle.rules.specs.Refusals.{refusal_of}
use Rattle.rules.specs.Step.{step}
use Rattle.rules.specs.declared.Reference.{Reference}
use Rattle.rules.specs.declared.Event.TheVariants.{Refer}
use Rattle.claims.specs.Demand2.{Relocated, par_for, pdr_for, writing, Allowed, Barred, Demand2}
use Rattle.rules.proofs.Bools.{or_l, or_r}
use Rattle.rules.proofs.Referring.{answer, answered, granted-tells}

-- with relocation on, the answer goes by mode 2, the three flags, the byte, the trap and the page
abbrev relocated : Bool → Bool → Bool → Bool → ℕ → Bool → ℕ → Paper
relocated illegal n e o b t p = answer true true illegal (n || e || o) 0 0 n e o b t p

not_refused : (l : List ℕ) (r : Reference) → Relocated l r → refusal_of l (Refer r) ≡ 0
unfolding refusal_of
not_refused l r h =
    rw (
      eq-eqb (length l) 100 h.whole,
      le-ltb 3 r.mode h.moded,
      le-ltb 1 r.space h.spaced,
      le-ltb 1 r.access h.accessed,
      le-ltb 1 r.phase h.phased,
    )

answer_is : (l : List ℕ) (r : Reference) → Relocated l r
    → (step l (Refer r)).0
    ≡ relocated (eqb r.mode 2)
    (non_resident_flag (pdr_for l r)) (length_error (pdr_for l r) (block_of r.va)) (read_only_flag (pdr_for l r) (writing r))
    (byte_of (par_for l r) r.va) (traps (word l SR0) (pdr_for l r) (writing r)) (page_for l r)
unfolding answer
answer_is l r h = answered l r ∙ rw (not_refused l r h, h.on)

abort_there : (i n e o : Bool) (b : ℕ) (t : Bool) (k : ℕ) (x y z : Bool) → relocated i n e o b t k ≡ A x y z
    → (cond i true n ≡ x) × ((cond i false e ≡ y) × ((cond i false o ≡ z) × ((x || y || z) ≡ true)))
unfolding answer
abort_there true n e o b t k x y z h = let p : true ≡ x = cc in (p, (cc, (cc, rw (← p))))
abort_there false true e o b t k x y z h = let p : true ≡ x = cc in (p, (cc, (cc, rw (← p))))
abort_there false false true o b t k x y z h = let p : false ≡ x = cc in let q : true ≡ y = cc in (p, (q, (cc, rw (← p, ← q))))
abort_there false false false true b t k x y z h =
    let p : false ≡ x = cc in
    let q : false ≡ y = cc in
    let r : true ≡ z = cc in
    (p, (q, (r, rw (← p, ← q, ← r))))
abort_there false false false false b t k x y z h = let w : ◌≡◌ {A = ℕ} 0 1 = cc in absurd (omega arith)

abort_back : (i n e o : Bool) (b : ℕ) (t : Bool) (k : ℕ) (x y z : Bool)
    → cond i true n ≡ x → cond i false e ≡ y → cond i false o ≡ z → (x || y || z) ≡ true → relocated i n e o b t k ≡ A x y z
unfolding answer
abort_back true n e o b t k x y z p q r s = cc
abort_back false n e o b t k x y z p q r s = rw (p, q, r, s)

-- a key's right for an access, and the flags that it leaves clear
right_there : (w n o : Bool) → n ≡ false → (w && o) ≡ false → cond w (not n && not o) (not n) ≡ true
right_there w true o p q = absurd (true≢false p)
right_there true false true p q = absurd (true≢false q)
right_there true false false p q = refl
right_there false false o p q = refl

right-back : (w n o : Bool) → cond w (not n && not o) (not n) ≡ true → (n ≡ false) × ((w && o) ≡ false)
right-back true true o h = absurd (false≢true h)
right-back false true o h = absurd (false≢true h)
right-back true false true h = absurd (false≢true h)
right-back true false false h = (refl, refl)
right-back false false o h = (refl, refl)

granted-there : (l : List ℕ) (r : Reference) → Relocated l r
    → (byte : ℕ) (trap : Bool) (served : Option ℕ) → (step l (Refer r)).0 ≡ G byte trap served → Allowed l r byte trap served
unfolding right_of
granted-there l r h byte trap served g =
    let key = key_of (pdr_for l r) in
    let n = non_resident key in
    let e = length_error (pdr_for l r) (block_of r.va) in
    let o = read_only_flag (pdr_for l r) (writing r) in
    let t = granted-tells l r byte trap served g in
    let u = t.2 h.on in
    let first = or_l (n || e) o u.1 in
    record {
      legal = u.0;
      right = right_there (writing r) n (read_only key) (or_l n e first) (or_r (n || e) o u.1);
      within = or_r n e first;
      sum = sym u.2;
      trapped = sym u.3;
      page = sym (t.1 ∙ rw h.on);
    }

granted-back : (l : List ℕ) (r : Reference) → Relocated l r
    → (byte : ℕ) (trap : Bool) (served : Option ℕ) → Allowed l r byte trap served → (step l (Refer r)).0 ≡ G byte trap served
unfolding right_of answer
granted-back l r h byte trap served a =
    let key = key_of (pdr_for l r) in
    let q = right-back (writing r) (non_resident key) (read_only key) a.right in
    answer_is l r h ∙ rw (a.legal, q.0, a.within, q.1, a.sum, a.trapped, a.page)

aborted-there : (l : List ℕ) (r : Reference) → Relocated l r → (n e o : Bool) → (step l (Refer r)).0 ≡ A n e o → Barred l r n e o
aborted-there l r h n e o g =
    let q = abort_there (eqb r.mode 2) (non_resident_flag (pdr_for l r)) (length_error (pdr_for l r) (block_of r.va))
    (read_only_flag (pdr_for l r) (writing r))
    (byte_of (par_for l r) r.va) (traps (word l SR0) (pdr_for l r) (writing r)) (page_for l r) n e o (sym (answer_is l r h) ∙ g) in
    record { absent = q.0; beyond = q.1.0; unwritable = q.1.1.0; flagged = q.1.1.1 }

aborted-back : (l : List ℕ) (r : Reference) → Relocated l r → (n e o : Bool) → Barred l r n e o → (step l (Refer r)).0 ≡ A n e o
aborted-back l r h n e o b =
    answer_is l r h
    ∙ abort_back (eqb r.mode 2) (non_resident_flag (pdr_for l r)) (length_error (pdr_for l r) (block_of r.va)) (read_only_flag (pdr_for l r) (writing r))
    (byte_of (par_for l r) r.va) (traps (word l SR0) (pdr_for l r) (writing r)) (page_for l r) n e o
    b.absent b.beyond b.unwritable b.flagged

pub demand2 : Demand2
demand2 =
    record {
      granted = λ l r h b t s. (granted-there l r h b t s, granted-back l r h b t s);
      aborted = λ l r h n e o. (aborted-there l r h n e o, aborted-back l r h n e o);
    }
