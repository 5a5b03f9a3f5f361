-- The verdict on a write is the verdict on the place it is to: an accepted write is to a register, and SR0 after it is known by the place.
use mathlib.Core.Path.{◌≡◌, refl, sym, ◌∙◌}
use mathlib.Core.Bool.{Bool, true, false, cond, not, ◌&&◌, ◌||◌}
use mathlib.Core.List.{List, [], ◌∷◌}
use Prim.Native.Nat.{ℕ, ◌%◌}
use native.Mathlib.Omega.{arith}
use native.Mathlib.Nat.{mod-mod}
use lib.Dec.{eqb, ltb}
use lib.Bits.{bit_or, bit_and, or_mod, or_zero_r, and_mod, and_mask, and_zero_r}
use lib.ListN.{length, set}
use lib.Seq.{get_or-set_same, get_or-set_other}
use borrow.Author.Tests.{eq-eqb, ne_eqb, ltb-true}
use Rattle.page.specs.Fields.{ed_of}
use Rattle.rules.specs.Keys.{key_of, non_resident}
use Rattle.rules.specs.Words.{word, PDR, SR0, SR3, relocates}
use Rattle.rules.specs.Addresses.{register_at, is_register}
use Rattle.rules.specs.Registers.{written_at}
use Rattle.rules.specs.Refusals.{refusal_of, odd}
use Rattle.rules.specs.Step.{step, accepted}
use Rattle.rules.specs.declared.Event.TheVariants.{Write}
use Rattle.std.proofs.Common.{Some, None}
use Rattle.decode.specs.Parts.{place_at}
use Rattle.decode.proofs.Same.{odd-none, high-none}
use Rattle.widening.specs.Widens.{widens_par, keeps_blocks, keeps_rights}
use Rattle.auditing.specs.declared.Reason.TheVariants.{WritesSr3, RelocationOff, ChangesPar, ChangesEd, Narrows, LosesRights}
use Rattle.auditing.specs.Verdicts.{broken_by, first_broken}
use Rattle.auditing.specs.Places.{left_on, place_verdict}

-- h, o, g: a high address, an odd one, a register's
by_tests : (h o g : Bool) → (h ≡ true → g ≡ false) → (o ≡ true → g ≡ false)
    → eqb (cond h 6 (cond o 7 (cond (not o && not g) 8 0))) 0 ≡ g
by_tests true o g p q = sym (p refl)
by_tests false true g p q = sym (q refl)
by_tests false false true p q = refl
by_tests false false false p q = refl

module _ (l : List ℕ) (whole : length l ≡ 100) where
  -- a write to a whole store is accepted exactly if it is to a register
  accepted-write : (a v : ℕ) → eqb (refusal_of l (Write a v)) 0 ≡ is_register a
  unfolding refusal_of
  accepted-write a v = rw (eq-eqb (length l) 100 whole) (by_tests (ltb 0o777777 a) (odd a) (is_register a) (high-none a) (odd-none a))

  -- a write to SR0 stores bit 0 of the value
  stored_low : (v sr0 : ℕ) → bit_or (bit_and v 0o171401) (bit_and sr0 0o000376) % 2 ≡ v % 2
  stored_low v sr0 =
      let a : bit_and v 0o171401 % 2 ≡ v % 2 = and_mod v 0o171401 1 ∙ (and_mask (v % 2) 1 ∙ mod-mod v 2) in
      let b : bit_and sr0 0o000376 % 2 ≡ 0 = and_mod sr0 0o000376 1 ∙ and_zero_r (sr0 % 2) in
      or_mod (bit_and v 0o171401) (bit_and sr0 0o000376) 1 ∙ rw (a, b, or_zero_r)

  sr0-after : (place v : ℕ) → relocates (word (written_at l place v) SR0) ≡ left_on (word l SR0) place v
  unfolding written_at
  sr0-after place v = at (ltb place 48) (ltb place 96) (eqb place SR0) (eqb place SR3) refl refl refl refl
    where
      at : (p d z t : Bool) → ltb place 48 ≡ p → ltb place 96 ≡ d → eqb place SR0 ≡ z → eqb place SR3 ≡ t
          → relocates (word (written_at l place v) SR0) ≡ left_on (word l SR0) place v
      at true d z t e f g h =
          let k = ltb-true place 48 e in
          rw (
            e,
            ne_eqb place SR0 (λ q. omega arith),
            get_or-set_other (set l place (bit_and v 0o007777)) (PDR place) SR0
                (bit_and (word l (PDR place)) 0o177477) 0 (λ q. omega arith),
            get_or-set_other l place SR0 (bit_and v 0o007777) 0 (λ q. omega arith),
          )
      at false true z t e f g h =
          let k = ltb-true place 96 f in
          rw (e, f, ne_eqb place SR0 (λ q. omega arith), get_or-set_other l place SR0 (bit_and v 0o077417) 0 (λ q. omega arith))
      at false false true t e f g h =
          rw (e, f, g, get_or-set_same l SR0 (bit_or (bit_and v 0o171401) (bit_and (word l SR0) 0o000376)) 0 (omega arith), stored_low v (word l SR0))
      at false false false true e f g h = rw (e, f, g, h, get_or-set_other l SR3 SR0 (bit_and v 0o000017) 0 (λ q. omega arith))
      at false false false false e f g h = rw (e, f, g, h)

  -- an accepted write leaves relocation on, by its place
  leaves-on : (a v : ℕ) → is_register a ≡ true
      → (not (is_register a) || relocates (word (step l (Write a v)).1 SR0)) ≡ left_on (word l SR0) (register_at a) v
  unfolding step accepted
  leaves-on a v g = rw (accepted-write a v, g) (sr0-after (register_at a) v)

-- the premises of a write in order and by the place. t a write to SR3; o relocation left on; x and y a PAR, a PDR;
-- n the old key non-resident; p, e, b, k the tests of PAR, ED, length and rights
in_order : (t o x y n p e b k : Bool)
    → first_broken (not t ∷ o ∷ (not x || p) ∷ (not (not x && y) || n || e) ∷ (not (not x && y) || n || b) ∷ (not (not x && y) || n || k) ∷ [])
    (WritesSr3 ∷ RelocationOff ∷ ChangesPar ∷ ChangesEd ∷ Narrows ∷ LosesRights ∷ [])
    ≡ cond t (Some WritesSr3)
    (cond o
    (cond x (cond p None (Some ChangesPar))
    (cond y
    (cond n None (cond e (cond b (cond k None (Some LosesRights)) (Some Narrows)) (Some ChangesEd)))
    None))
    (Some RelocationOff))
in_order true o x y n p e b k = refl
in_order false false x y n p e b k = refl
in_order false true true y n true e b k = refl
in_order false true true y n false e b k = refl
in_order false true false false n p e b k = refl
in_order false true false true true p e b k = refl
in_order false true false true false p false b k = refl
in_order false true false true false p true false k = refl
in_order false true false true false p true true false = refl
in_order false true false true false p true true true = refl

module _ (l : List ℕ) (whole : length l ≡ 100) (a v : ℕ) where
  by_address : (g : Bool) → is_register a ≡ g → broken_by l (Write a v) ≡ cond g (place_verdict l (register_at a) v) None
  unfolding broken_by place_verdict
  by_address true e =
      let place = register_at a in
      let old = word l place in
      rw (accepted-write l whole a v, leaves-on l whole a v e, e)
      (in_order (eqb place SR3) (left_on (word l SR0) place v) (ltb place 48) (ltb place 96) (non_resident (key_of old))
      (widens_par (word l (PDR place)) old v) (eqb (ed_of v) (ed_of old)) (keeps_blocks old v) (keeps_rights (key_of old) (key_of v)))
  by_address false e = rw (accepted-write l whole a v, e)

  -- a write to no register, and to one
  pub write_nowhere : place_at a ≡ None → broken_by l (Write a v) ≡ None
  unfolding place_at
  write_nowhere h = at (is_register a) refl
    where
      at : (g : Bool) → is_register a ≡ g → broken_by l (Write a v) ≡ None
      at true e = let k : Some (register_at a) ≡ None = rw e at h in cc
      at false e = by_address false e

  pub write_somewhere : (place : ℕ) → place_at a ≡ Some place → broken_by l (Write a v) ≡ place_verdict l place v
  unfolding place_at
  write_somewhere place h = at (is_register a) refl
    where
      at : (g : Bool) → is_register a ≡ g → broken_by l (Write a v) ≡ place_verdict l place v
      at true e = let k : Some (register_at a) ≡ Some place = rw e at h in let p : register_at a ≡ place = cc in rw (← p) (by_address true e)
      at false e = let k : None ≡ Some place = rw e at h in cc
