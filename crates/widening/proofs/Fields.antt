-- Marking a page and masking a written word keep the fields: the laws of `bit_or` and `bit_and` on a part of a number.
use mathlib.Core.Path.{◌≡◌, refl, ◌∙◌}
use mathlib.Core.Bool.{Bool, true, false, cond}
use Prim.Native.Nat.{ℕ, ◌+◌, ◌-◌, ◌*◌, ◌/◌, ◌%◌, ◌^◌, ◌<◌}
use native.Mathlib.Omega.{arith}
use native.Mathlib.Nat.{mod-mod}
use lib.Dec.{eqb}
use lib.Bits.{bit_or, bit_and, or_mod, or_shr, or_zero_r, and_mod, and_shr, and_mask}
use Rattle.page.specs.Fields.{base_of, length_of, ed_of}
use Rattle.rules.specs.Keys.{key_of}
use Rattle.rules.specs.Words.{bit, frozen}
use Rattle.rules.specs.Addresses.{in_registers}
use Rattle.rules.specs.References.{marks_of, sr0_after}
use Rattle.rules.proofs.Bools.{bit-small}

-- a field of k bits from bit j, of x | m where m has none of its bits, and of x & m where m has all of them
or_field : (j k x m : ℕ) → m / 2 ^ j % 2 ^ k ≡ 0 → bit_or x m / 2 ^ j % 2 ^ k ≡ x / 2 ^ j % 2 ^ k
or_field j k x m h = rw (or_shr, or_mod, h, or_zero_r)

and_field : (j k x m : ℕ) → m / 2 ^ j % 2 ^ k ≡ 2 ^ k - 1 → bit_and x m / 2 ^ j % 2 ^ k ≡ x / 2 ^ j % 2 ^ k
and_field j k x m h = rw (and_shr, and_mod, h, and_mask, mod-mod)

or_low : (k x m : ℕ) → m % 2 ^ k ≡ 0 → bit_or x m % 2 ^ k ≡ x % 2 ^ k
or_low k x m h = rw (or_mod, h, or_zero_r)

and_low : (k x m : ℕ) → m % 2 ^ k ≡ 2 ^ k - 1 → bit_and x m % 2 ^ k ≡ x % 2 ^ k
and_low k x m h = rw (and_mod, h, and_mask, mod-mod)

-- two PDRs with the same key, ED and length field
pub record SameFields (old new : ℕ) : Type 0 where
  pub key : key_of new ≡ key_of old
  pub ed : ed_of new ≡ ed_of old
  pub len : length_of new ≡ length_of old

pub same-fields : (pdr : ℕ) → SameFields pdr pdr
same-fields pdr = record { key = refl; ed = refl; len = refl }

-- a mask that keeps the fields: a PAR write's 177477, a PDR write's 077417
pub masked : (pdr mask : ℕ) → mask % 8 ≡ 7 → mask / 8 % 2 ≡ 1 → mask / 256 % 128 ≡ 127 → SameFields pdr (bit_and pdr mask)
masked pdr mask k e l = record { key = and_low 3 pdr mask k; ed = and_field 3 1 pdr mask e; len = and_field 8 7 pdr mask l }

-- rule 7 sets A and W only
marks-place : (x : Bool) (a w : Bool) → (cond x 0 (bit a * 0o200 + bit w * 0o100) % 64 ≡ 0) × (cond x 0 (bit a * 0o200 + bit w * 0o100) < 256)
marks-place true a w = omega arith
marks-place false a w = omega (arith, bit-small a, bit-small w)

pub marked : (pdr byte : ℕ) (a w : Bool) → SameFields pdr (bit_or pdr (marks_of byte a w))
marked pdr byte a w =
    let m : ℕ = marks_of byte a w in
    let h = marks-place (in_registers byte) a w in
    record { key = or_low 3 pdr m (omega (arith, h)); ed = or_field 3 1 pdr m (omega (arith, h)); len = or_field 8 7 pdr m (omega (arith, h)) }

-- rules 8 and 9 keep bit 0 of SR0, for even flags and details
loaded_low : (x y : Bool) (sr0 flags loaded : ℕ) → flags % 2 ≡ 0 → loaded % 2 ≡ 0
    → cond x sr0 (bit_or (cond y sr0 (bit_or (bit_and sr0 0o177401) loaded)) flags) % 2 ≡ sr0 % 2
loaded_low true y sr0 flags loaded f d = refl
loaded_low false true sr0 flags loaded f d = or_low 1 sr0 flags f
loaded_low false false sr0 flags loaded f d =
    or_low 1 (bit_or (bit_and sr0 0o177401) loaded) flags f ∙ or_low 1 (bit_and sr0 0o177401) loaded d ∙ and_low 1 sr0 0o177401 refl

pub sr0-low : (sr0 flags loaded : ℕ) → flags % 2 ≡ 0 → loaded % 2 ≡ 0 → sr0_after sr0 flags loaded % 2 ≡ sr0 % 2
sr0-low sr0 flags loaded f d = loaded_low (eqb flags 0) (frozen sr0) sr0 flags loaded f d

-- a PAR write keeps the twelve bits written
pub base-stored : (value : ℕ) → base_of (bit_and value 0o007777) ≡ base_of value
base-stored value = and_low 12 value 0o007777 refl
