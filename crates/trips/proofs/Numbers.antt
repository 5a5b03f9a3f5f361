-- Numbers in bytes, low byte first: written and read back, over the width.
use mathlib.Core.Path.{◌≡◌, refl, ap}
use mathlib.Core.Bool.{Bool, true, false, cond}
use mathlib.Core.List.{List, [], ◌∷◌}
use Prim.Native.Nat.{ℕ, zero, suc, ◌+◌, ◌*◌, ◌-◌, ◌/◌, ◌%◌, ◌<◌, ◌^◌}
use native.Mathlib.Omega.{arith}
use lib.Dec.{ltb}
use lib.IntN.{ℤ, pos, negsuc}
use borrow.Author.Tests.{lt-ltb, le-ltb, ltb-true, ltb-false}
use Rattle.rules.specs.Others.{complement}
use Rattle.records.specs.Bytes.{byte_at, low_first, signed}
use Rattle.writer.specs.Bytes.{bytes_of}
use Rattle.writer.specs.Writing.{in_byte}
use Rattle.trips.specs.Trips.{Bytes}

-- the number that bytes written low byte first are read as
unfoldable pub joined : ℕ → ℕ → ℕ
joined zero x = 0
joined (suc n) x = x % 256 + 256 * joined n (x / 256)

pub joined_back : (n x : ℕ) → x < 256 ^ n → joined n x ≡ x
unfolding joined
joined_back zero x h = omega arith
joined_back (suc n) x h = let e = joined_back n (x / 256) (omega arith) in omega (arith, e)

pub signed_back : (z : ℤ) → in_byte z ≡ true → signed (complement 255 z) ≡ z
signed_back (pos n) h = rw h
signed_back (negsuc n) h = let k = ltb-true n 128 h in rw (le-ltb (255 - n) 128 (omega arith)) (ap negsuc (omega arith))

-- so many bytes from a place on
unfoldable pub run : ℕ → List ℕ → ℕ → List ℕ
run zero s at = []
run (suc n) s at = byte_at s at ∷ run n s (at + 1)

module _ (s : List ℕ) (bytes : Bytes s) where
  pub low_byte : (at : ℕ) → byte_at s at % 256 ≡ byte_at s at
  low_byte at = let h = bytes at in omega arith

  pub bytes_back : (n at : ℕ) → bytes_of n (low_first n s at) ≡ run n s at
  unfolding run
  bytes_back zero at = refl
  bytes_back (suc n) at =
      let h = bytes at in
      let x = byte_at s at in
      let y = low_first n s (at + 1) in
      let m : (x + 256 * y) % 256 ≡ x = omega arith in
      let d : (x + 256 * y) / 256 ≡ y = omega arith in
      rw (m, d, bytes_back n (at + 1))

  pub below : (n at : ℕ) → low_first n s at < 256 ^ n
  below zero at = omega arith
  below (suc n) at = let h = bytes at in let k = below n (at + 1) in omega (arith, k)

  complement-of : (x : Bool) (b : ℕ) → ltb b 128 ≡ x → b < 256 → complement 255 (cond x (pos b) (negsuc (255 - b))) ≡ b
  complement-of true b e h = refl
  complement-of false b e h = omega arith

  pub complement-back : (at : ℕ) → complement 255 (signed (byte_at s at)) ≡ byte_at s at
  complement-back at = complement-of (ltb (byte_at s at) 128) (byte_at s at) refl (bytes at)

  in_byte-of : (x : Bool) (b : ℕ) → ltb b 128 ≡ x → b < 256 → in_byte (cond x (pos b) (negsuc (255 - b))) ≡ true
  in_byte-of true b e h = e
  in_byte-of false b e h = let k = ltb-false b 128 e in lt-ltb (255 - b) 128 (omega arith)

  pub in_byte_lem : (at : ℕ) → in_byte (signed (byte_at s at)) ≡ true
  in_byte_lem at = in_byte-of (ltb (byte_at s at) 128) (byte_at s at) refl (bytes at)
