-- The premises one by one are what `permitted` asks: a table of truth values for the tests of widening.
use mathlib.Core.Path.{◌≡◌, refl, sym}
use mathlib.Core.Bool.{Bool, true, false, cond, not, ◌&&◌, ◌||◌, and-true, and_assoc}
use mathlib.Core.List.{List}
use Prim.Native.Nat.{ℕ}
use lib.Dec.{ltb, eqb}
use Rattle.page.specs.Fields.{ed_of}
use Rattle.rules.specs.Keys.{key_of, non_resident}
use Rattle.rules.specs.Words.{word, PDR}
use Rattle.rules.specs.Addresses.{register_at}
use Rattle.rules.specs.declared.Event.{Event}
use Rattle.rules.specs.declared.Event.TheVariants.{Refer, Read, Write, Instruction, Interrupt, Change, Init}
use Rattle.widening.specs.Widens.{widens, widens_at, widens_par, widens_pdr, keeps_blocks, keeps_rights}
use Rattle.widening.specs.Runs.{permitted}
use Rattle.widening.specs.Premises.{PremisesAre, page_premises, every}

-- widening, test by test: x and y a PAR, a PDR; n the old key non-resident; p, e, b, k the tests of PAR, ED, length and rights
tests : (x y n p e b k : Bool)
    → cond x p (cond y (n || (e && b && k)) true)
    ≡ ((not x || p) && ((not (not x && y) || n || e) && ((not (not x && y) || n || b) && ((not (not x && y) || n || k) && true))))
tests true y n p e b k = sym (and-true p)
tests false false n p e b k = refl
tests false true true p e b k = refl
tests false true false p true true k = sym (and-true k)
tests false true false p true false k = refl
tests false true false p false b k = refl

widens-tests : (l : List ℕ) (e : Event) → widens l e ≡ every (page_premises l e)
unfolding widens_at widens_pdr
widens-tests l (Refer r) = refl
widens-tests l (Read address) = refl
widens-tests l (Write address value) =
    let place = register_at address in
    let old = word l place in
    tests (ltb place 48) (ltb place 96) (non_resident (key_of old)) (widens_par (word l (PDR place)) old value) (eqb (ed_of value) (ed_of old))
    (keeps_blocks old value) (keeps_rights (key_of old) (key_of value))
widens-tests l (Instruction va) = refl
widens-tests l (Interrupt vector) = refl
widens-tests l (Change register amount) = refl
widens-tests l Init = refl

pub premises_are : PremisesAre
unfolding permitted
premises_are l e = rw (widens-tests l e) (simp and_assoc)
