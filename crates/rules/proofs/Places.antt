-- The code's `at + k` as `sets` counts it, one more k times.
use mathlib.Core.Path.{◌≡◌}
use Prim.Native.Nat.{ℕ, zero, suc, ◌+◌}
use native.Mathlib.Omega.{arith}

abbrev pub more : ℕ → ℕ → ℕ
more zero n = n
more (suc k) n = suc (more k n)

pub place : (k n : ℕ) → n + k ≡ more k n
place zero n = omega arith
place (suc k) n = omega (arith, place k n)
