-- The measure of the loop over a text's lines falls: with less text; with the output written.
use Rattle.std.proofs.Common.{◌≡◌, ℕ, ◌+◌, ◌<◌, ◌≤◌, Bool, true, false, cond, eqb, ne_eqb, arith}

-- whether bytes are used
abbrev pub waiting : ℕ → ℕ
waiting used = cond (eqb used 0) 0 1

pub waiting_least : (n : ℕ) → waiting n ≤ 1
waiting_least n = by (eqb n 0)
  where
    by : (x : Bool) → cond {A = ℕ} x 0 1 ≤ 1
    by true = omega arith
    by false = omega arith

pub falls : (left used used' : ℕ) → used' ≡ 0 → (used ≡ 0 → ⊥) → left + waiting used' < left + waiting used
falls left used used' z some = rw (z, ne_eqb used 0 some) (omega arith)
