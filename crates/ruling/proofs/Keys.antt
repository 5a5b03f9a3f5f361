-- What the rules ask of a key is what its line in the table gives: computed over the eight keys.
use mathlib.Core.Path.{◌≡◌, refl}
use mathlib.Core.Bool.{Bool, true, false, cond, not, ◌&&◌}
use Prim.Native.Nat.{ℕ}
use native.Mathlib.Omega.{arith}
use Rattle.std.proofs.lemmas.Bool.{agree_below_at}
use Rattle.rules.specs.Keys.{key_of, right_of, non_resident, read_only}
use Rattle.rules.specs.References.{condition}

unfolds_not : (b : Bool) → not (not b) ≡ b
unfolds_not true = refl
unfolds_not false = refl

pub absent : (key : ℕ) → not (right_of key).read ≡ non_resident key
unfolding right_of
absent key = unfolds_not (non_resident key)

unwritable : ℕ → Bool
unwritable key = (right_of key).read && not (right_of key).write

pub only-read : (pdr : ℕ) → ((right_of (key_of pdr)).read && not (right_of (key_of pdr)).write) ≡ read_only (key_of pdr)
unfolding unwritable right_of
only-read pdr = agree_below_at unwritable read_only 8 (key_of pdr) refl (omega arith)

pub trapping : (pdr : ℕ) (write : Bool) → cond write (right_of (key_of pdr)).writetrap (right_of (key_of pdr)).readtrap ≡ condition pdr write
unfolding right_of
trapping pdr write = refl
