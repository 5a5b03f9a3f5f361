-- A PAR write and a PDR write go one way: a PDR write's word has neither A nor W, so that clearing them once more changes nothing.
use mathlib.Core.Path.{◌≡◌, refl}
use mathlib.Core.Bool.{Bool, true, false}
use mathlib.Core.List.{List}
use Prim.Native.Nat.{ℕ, ◌+◌, ◌%◌, ◌<◌}
use native.Mathlib.Omega.{arith}
use lib.Dec.{ltb}
use lib.Bits.{bit_and}
use lib.ListN.{length, get_or, set}
use lib.Seq.{get_or-set_same, get_or-set_other, set-set}
use borrow.Author.Tests.{ltb-true, ltb-false, lt-ltb}
use Rattle.rules.specs.Registers.{written_at}
use Rattle.rules.proofs.Masks.{twice}
use Rattle.registers.specs.Taken.{taken_of}

module _ (l : List ℕ) (place value : ℕ) (whole : length l ≡ 100) (page : place < 96) where
  -- the store once the word is written, and its PDR
  abbrev pub word_in : List ℕ
  word_in = set l place (bit_and value (taken_of place))

  by_case : (x : Bool) → ltb place 48 ≡ x
      → set word_in (48 + place % 48) (bit_and (get_or word_in (48 + place % 48) 0) 0o177477) ≡ written_at l place value
  unfolding written_at
  by_case true e =
      let h = ltb-true place 48 e in
      let same : place % 48 ≡ place = omega arith in
      rw (same, e, get_or-set_other l place (48 + place) (bit_and value 0o007777) 0 (λ z. omega arith))
  by_case false e =
      let h = ltb-false place 48 e in
      let same : 48 + place % 48 ≡ place = omega arith in
      rw (
        same,
        e,
        lt-ltb place 96 page,
        get_or-set_same l place (bit_and value 0o077417) 0 (omega arith),
        twice value 0o077417 0o177477 (omega arith),
        set-set,
      )

  pub one_path : set word_in (48 + place % 48) (bit_and (get_or word_in (48 + place % 48) 0) 0o177477) ≡ written_at l place value
  one_path = by_case (ltb place 48) refl
