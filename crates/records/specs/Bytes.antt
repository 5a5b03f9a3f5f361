-- How a recording holds numbers (01, "Recordings").
use Rattle.std.specs.Prelude.{ℕ, zero, suc, ◌+◌, ◌*◌, ◌-◌, cond, List, get_or, ltb, ℤ, pos, negsuc}

abbrev pub byte_at : List ℕ → ℕ → ℕ
byte_at s at = get_or s at 0

-- a number in n bytes from a place on, low byte first
abbrev pub low_first : ℕ → List ℕ → ℕ → ℕ
low_first zero s at = 0
low_first (suc n) s at = byte_at s at + 256 * low_first n s (at + 1)

-- the amount that a two's complement byte holds; `negsuc n` is -1 - n
abbrev pub signed : ℕ → ℤ
signed b = cond (ltb b 128) (pos b) (negsuc (255 - b))
