-- The starts, a change noted, and INIT.
use Rattle.std.specs.Prelude.{ℕ, ◌+◌, ◌*◌, ◌-◌, ◌/◌, ◌%◌, Bool, cond, not, ◌&&◌, List, set, ltb, eqb, ℤ, pos, negsuc}
use Rattle.rules.specs.Words.{word, SR0, SR1, SR2, SR3, frozen}

-- an instruction's VA, an interrupt's vector: unless frozen, SR1 becomes 0 and SR2 the number
unfoldable pub started : List ℕ → ℕ → List ℕ
started l n = cond (frozen (word l SR0)) l (set (set l SR1 0) SR2 n)

-- an amount from -16 to 15 but not 0; `negsuc n` is -1 - n
abbrev pub good_amount : ℤ → Bool
good_amount (pos n) = not (eqb n 0) && ltb n 16
good_amount (negsuc n) = ltb n 16

-- two's complement, in bits that hold the numbers up to most
abbrev pub complement : ℕ → ℤ → ℕ
complement most (pos n) = n
complement most (negsuc n) = most - n

abbrev pub five_bits : ℤ → ℕ
five_bits amount = complement 31 amount

-- the byte: the amount in five bits, then three bits of register
abbrev pub change_byte : ℕ → ℤ → ℕ
change_byte register amount = five_bits amount * 8 + register

-- both bytes of SR1 are in use
abbrev pub both_used : ℕ → Bool
both_used sr1 = not (eqb (sr1 % 256) 0) && not (eqb (sr1 / 256 % 256) 0)

-- to SR1's low byte if that is 0, else to the high byte
abbrev pub with_change : ℕ → ℕ → ℕ
with_change sr1 byte = cond (eqb (sr1 % 256) 0) (sr1 + byte) (sr1 + byte * 256)

unfoldable pub noted : List ℕ → ℕ → List ℕ
noted l byte = cond (frozen (word l SR0)) l (set l SR1 (with_change (word l SR1) byte))

-- INIT sets SR0 to SR3 to 0; PAR and PDR stay
unfoldable pub cleared : List ℕ → List ℕ
cleared l = set (set (set (set l SR0 0) SR1 0) SR2 0) SR3 0
