-- An accepted write that demand 3 permits leaves a map at least as wide: by the register written, PAR and PDR each once over the page number.
use mathlib.Core.Path.{◌≡◌, refl, ◌∙◌}
use mathlib.Core.Bool.{Bool, true, false, not, ◌&&◌, ◌||◌, false≢true, true≢false}
use mathlib.Core.List.{List}
use Prim.Native.Nat.{ℕ, ◌-◌, ◌<◌}
use native.Mathlib.Omega.{arith}
use lib.Dec.{eqb, ltb}
use lib.Bits.{bit_and, bit_or}
use lib.ListN.{length, set, length-set}
use lib.Seq.{get_or-set_same, get_or-set_other}
use borrow.Author.Tests.{eqb-true, eqb-false, ltb-true, ltb-false}
use Rattle.page.specs.Fields.{base_of, ed_of}
use Rattle.rules.specs.Keys.{key_of, non_resident, read_only}
use Rattle.rules.specs.Words.{word, PDR, SR0, SR3, relocates}
use Rattle.rules.specs.Registers.{written_at}
use Rattle.widening.specs.Widens.{StoredAlike, widens_par, widens_pdr, widens_at, keeps_blocks, keeps_rights}
use Rattle.widening.proofs.Fields.{same-fields, masked, base-stored}
use Rattle.widening.proofs.Wider.{PageWider, Wider, same_wider, page_trans, same_map}
use Rattle.widening.proofs.Stays.{same_self}

-- "new" as written and as stored
pub stored_alike : StoredAlike
unfolding widens_par widens_pdr
stored_alike pdr old new =
    let f = masked new 0o077417 refl refl refl in
    (rw (base-stored new), rw (f.key, f.ed, f.len))

-- the tests of a widening, taken apart: n the old key non-resident; e, b, k the tests of ED, length and rights
three : (n e b k : Bool) → (n || (e && b && k)) ≡ true → n ≡ false → (e ≡ true) × (b ≡ true) × (k ≡ true)
three true e b k h f = absurd (true≢false f)
three false true true k h f = (refl, refl, h)
three false true false k h f = absurd (false≢true h)
three false false b k h f = absurd (false≢true h)

one : (n e : Bool) → (n || e) ≡ true → n ≡ false → e ≡ true
one true e h f = absurd (true≢false f)
one false e h f = h

-- n and o: the old key non-resident, read-only; n' and o': the new key
rights : (n o n' o' : Bool) → n ≡ false → ((not (not n) || not n') && (not (not n && not o) || (not n' && not o'))) ≡ true
    → (n' ≡ false) × (o ≡ false → o' ≡ false)
rights true o n' o' f h = absurd (true≢false f)
rights false o true o' f h = absurd (false≢true h)
rights false true false o' f h = (refl, λ g. absurd (true≢false g))
rights false false false true f h = absurd (false≢true h)
rights false false false false f h = (refl, λ g. refl)

-- a PDR that widens, at any PAR of the same twelve bits
pdr-page : (par par' old new : ℕ) → base_of par' ≡ base_of par → widens_pdr old new ≡ true → non_resident (key_of old) ≡ false → PageWider par old par' new
unfolding widens_pdr
pdr-page par par' old new s w r =
    let t = three (non_resident (key_of old)) (eqb (ed_of new) (ed_of old)) (keeps_blocks old new) (keeps_rights (key_of old) (key_of new)) w r in
    let k = rights (non_resident (key_of old)) (read_only (key_of old)) (non_resident (key_of new)) (read_only (key_of new)) r t.2 in
    record { base = s; ed = eqb-true (ed_of new) (ed_of old) t.0; blocks = t.1; resident = k.0; writable = k.1 }

module _ (l : List ℕ) (whole : length l ≡ 100) where
  -- a map that is the same but at page q, where it is wider
  one-page : (m : List ℕ) (q : ℕ) → length m ≡ length l → word m SR0 ≡ word l SR0 → word m SR3 ≡ word l SR3
      → (non_resident (key_of (word l (PDR q))) ≡ false → PageWider (word l q) (word l (PDR q)) (word m q) (word m (PDR q)))
      → ((p : ℕ) → p < 48 → (p ≡ q → ⊥) → (word m p ≡ word l p) × (word m (PDR p) ≡ word l (PDR p)))
      → Wider l m
  one-page m q size sr0 sr3 here there =
      record { size = size; on = λ o. rw sr0 o; sr3 = sr3; pages = λ p b r. at p b r (eqb p q) refl }
    where
      at : (p : ℕ) → p < 48 → non_resident (key_of (word l (PDR p))) ≡ false → (x : Bool) → eqb p q ≡ x
          → PageWider (word l p) (word l (PDR p)) (word m p) (word m (PDR p))
      at p b r true e = let s : p ≡ q = eqb-true p q e in rw s (here (rw s at r))
      at p b r false e =
          let s = there p b (eqb-false p q e) in
          rw (s.0, s.1) (same_wider (word l p) (word l (PDR p)) (word l p) (word l (PDR p)) refl (same-fields (word l (PDR p))) r)

  par_wider : (q value : ℕ) → q < 48 → widens_par (word l (PDR q)) (word l q) value ≡ true
      → Wider l (set (set l q (bit_and value 0o007777)) (PDR q) (bit_and (word l (PDR q)) 0o177477))
  unfolding widens_par
  par_wider q value small w =
      let a = bit_and value 0o007777 in
      let b = bit_and (word l (PDR q)) 0o177477 in
      let k = set l q a in
      let size = length-set l q a in
      let beyond : (i : ℕ) → (i ≡ q → ⊥) → (i ≡ PDR q → ⊥) → word (set k (PDR q) b) i ≡ word l i =
      λ i n d. get_or-set_other k (PDR q) i b 0 d ∙ get_or-set_other l q i a 0 n in
      one-page (set k (PDR q) b) q (length-set k (PDR q) b ∙ size) (beyond SR0 (λ e. omega arith) (λ e. omega arith))
      (beyond SR3 (λ e. omega arith) (λ e. omega arith))
      (λ r.
      rw (get_or-set_other k (PDR q) q b 0 (λ e. omega arith), get_or-set_same l q a 0 (omega arith), get_or-set_same k (PDR q) b 0 (omega arith))
      (same_wider (word l q) (word l (PDR q)) a b
      (base-stored value ∙ eqb-true (base_of value) (base_of (word l q)) (one (non_resident (key_of (word l (PDR q)))) _ w r))
      (masked (word l (PDR q)) 0o177477 refl refl refl) r))
      (λ p s n. (beyond p n (λ e. omega arith), beyond (PDR p) (λ e. omega arith) (λ e. n (omega arith))))

  pdr_wider : (q value : ℕ) → q < 48 → widens_pdr (word l (PDR q)) value ≡ true → Wider l (set l (PDR q) (bit_and value 0o077417))
  pdr_wider q value small w =
      let b = bit_and value 0o077417 in
      let beyond : (i : ℕ) → (i ≡ PDR q → ⊥) → word (set l (PDR q) b) i ≡ word l i = λ i n. get_or-set_other l (PDR q) i b 0 n in
      one-page (set l (PDR q) b) q (length-set l (PDR q) b) (beyond SR0 (λ e. omega arith)) (beyond SR3 (λ e. omega arith))
      (λ r.
      rw (get_or-set_other l (PDR q) q b 0 (λ e. omega arith), get_or-set_same l (PDR q) b 0 (omega arith))
      (let h = pdr-page (word l q) (word l q) (word l (PDR q)) value refl w r in
      page_trans h (same_wider (word l q) value (word l q) b refl (masked value 0o077417 refl refl refl) h.resident)))
      (λ p s n. (beyond p (λ e. omega arith), beyond (PDR p) (λ e. n (omega arith))))

  sr0_wider : (v : ℕ) → relocates v ≡ true → Wider l (set l SR0 v)
  sr0_wider v on =
      record {
        size = length-set l SR0 v;
        on = λ o. rw (get_or-set_same l SR0 v 0 (omega arith)) on;
        sr3 = get_or-set_other l SR0 SR3 v 0 (λ e. omega arith);
        pages = λ p b r.
            rw (get_or-set_other l SR0 p v 0 (λ e. omega arith), get_or-set_other l SR0 (PDR p) v 0 (λ e. omega arith))
            (same_wider (word l p) (word l (PDR p)) (word l p) (word l (PDR p)) refl (same-fields (word l (PDR p))) r);
      }

  -- the write at a place, by the tests of `written_at`: a PAR, a PDR, SR0; any other place but SR3 keeps the store
  pub written_wider : (place value : ℕ) → eqb place SR3 ≡ false → relocates (word (written_at l place value) SR0) ≡ true
      → widens_at l place value ≡ true → Wider l (written_at l place value)
  unfolding written_at widens_at
  written_wider place value other on w = at-par (ltb place 48) refl
    where
      at-sr0 : (x : Bool) → eqb place SR0 ≡ x → ltb place 48 ≡ false → ltb place 96 ≡ false → Wider l (written_at l place value)
      at-sr0 true e a b =
          let v = bit_or (bit_and value 0o171401) (bit_and (word l SR0) 0o000376) in
          rw (a, b, e) (sr0_wider v (rw (a, b, e, get_or-set_same l SR0 v 0 (omega arith)) at on))
      at-sr0 false e a b = rw (a, b, e, other) (same_map l l (same_self l))

      at-pdr : (x : Bool) → ltb place 96 ≡ x → ltb place 48 ≡ false → Wider l (written_at l place value)
      at-pdr true e a =
          let s : place ≡ PDR (place - 48) = omega (arith, ltb-false place 48 a) in
          rw (a, e) (rw (← s) at (pdr_wider (place - 48) value (omega (arith, ltb-true place 96 e, ltb-false place 48 a))
          (rw (← s) (rw (a, e) at w))))
      at-pdr false e a = at-sr0 (eqb place SR0) refl a e

      at-par : (x : Bool) → ltb place 48 ≡ x → Wider l (written_at l place value)
      at-par true e = rw e (par_wider place value (ltb-true place 48 e) (rw e at w))
      at-par false e = at-pdr (ltb place 96) refl e
