-- The lent store of 100 words: who stands where, and the bits of the status registers.
use Rattle.std.specs.Prelude.{ℕ, ◌+◌, ◌/◌, ◌%◌, Bool, true, false, cond, not, ◌&&◌, ◌||◌, List, get_or, ltb, eqb}

-- 48 PARs from 0, their PDRs in the same order, then SR0 to SR3
abbrev pub word : List ℕ → ℕ → ℕ
word store place = get_or store place 0

abbrev pub PDR : ℕ → ℕ
PDR page = 48 + page

abbrev pub SR0 : ℕ
SR0 = 96

abbrev pub SR1 : ℕ
SR1 = 97

abbrev pub SR2 : ℕ
SR2 = 98

abbrev pub SR3 : ℕ
SR3 = 99

abbrev pub bit : Bool → ℕ
bit true = 1
bit false = 0

-- SR0 bit 0 and bit 9; rule 9: frozen while any of bits 15:13 is set
abbrev pub relocates : ℕ → Bool
relocates sr0 = eqb (sr0 % 2) 1

abbrev pub traps_enabled : ℕ → Bool
traps_enabled sr0 = eqb (sr0 / 512 % 2) 1

abbrev pub frozen : ℕ → Bool
frozen sr0 = not (eqb (sr0 / 8192 % 8) 0)

-- SR3 enables D space: bit 2 for Kernel, bit 1 for Supervisor, bit 0 for User
abbrev pub enables_d : ℕ → ℕ → Bool
enables_d sr3 mode =
    (eqb mode 0 && eqb (sr3 / 4 % 2) 1) || (eqb mode 1 && eqb (sr3 / 2 % 2) 1) || (eqb mode 3 && eqb (sr3 % 2) 1)

-- the bits of the word at a place that the unit implements
abbrev pub implemented : ℕ → ℕ
implemented place =
    cond (ltb place 48) 0o007777
    (cond (ltb place 96) 0o077717
    (cond (eqb place SR0) 0o171777
    (cond (eqb place SR3) 0o000017 0o177777)))
