-- `length_error` meets its contract: with ED 0 no bit is flipped; with ED 1 each number is taken from 0o177777, and the greater becomes the lesser.
use mathlib.Core.Path.{◌≡◌, refl}
use mathlib.Core.Bool.{Bool, true, false, cond}
use Prim.Native.Nat.{ℕ, zero, suc, ◌-◌, ◌*◌, ◌/◌, ◌%◌, ◌^◌, ◌≤◌, ◌<◌}
use native.Mathlib.Nat.{mod-eq_of_lt, zero-mul, one-mul}
use native.Mathlib.Omega.{arith}
use lib.Bits.{bit_xor, xor_zero_r, xor_add_and, and_mask}
use lib.Dec.{ltb, eqb}
use borrow.Author.Tests.{ltb-true, ltb-false, lt-ltb, le-ltb}
use Rattle.page.specs.Length.{length_error}
use Rattle.page.proofs.length_error.Goals as goal

-- a number of k bits with every bit flipped
flipped : (k n : ℕ) → n < 2 ^ k → bit_xor n (2 ^ k - 1) ≡ 2 ^ k - 1 - n
flipped k n small =
    let sum = xor_add_and n (2 ^ k - 1) in
    let whole = and_mask n k in
    let itself = mod-eq_of_lt small in
    omega arith

-- the order of two numbers, each taken from a greater
turned : (m a b : ℕ) → a ≤ m → b ≤ m → (x : Bool) → ltb b a ≡ x → ltb (m - a) (m - b) ≡ x
turned m a b p q true e =
    let less = ltb-true b a e in
    lt-ltb (m - a) (m - b) (omega arith)
turned m a b p q false e =
    let more = ltb-false b a e in
    le-ltb (m - a) (m - b) (omega arith)

-- what the code compares is the definition's case, for either ED
by-ed : (k ed a b : ℕ) → ed < 2 → a < 2 ^ k → b < 2 ^ k
    → ltb (bit_xor a (ed * (2 ^ k - 1))) (bit_xor b (ed * (2 ^ k - 1))) ≡ cond (eqb ed 0) (ltb a b) (ltb b a)
by-ed k zero a b r p q = rw (zero-mul (2 ^ k - 1), xor_zero_r a, xor_zero_r b)
by-ed k (suc zero) a b r p q =
    rw (one-mul (2 ^ k - 1), flipped k a p, flipped k b q) (turned (2 ^ k - 1) a b (omega arith) (omega arith) (ltb b a) refl)
by-ed k (suc (suc n)) a b r p q = absurd (omega arith)

pub returns : goal.returns
unfolding length_error
returns c =
    let pdr = c.args.pdr in
    by-ed 16 (pdr / 8 % 2) (pdr / 256 % 128) c.args.block (omega arith) (omega arith) (omega arith)
