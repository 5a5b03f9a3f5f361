-- The fields of an address (VA) and of a page's two words (PAR, PDR), as document 01 numbers their bits. 0o marks octal.
use Rattle.std.specs.Prelude.{ℕ, ◌/◌, ◌%◌}

-- VA 15:13, 12:6 and 5:0
abbrev pub page_of : ℕ → ℕ
page_of va = va / 8192 % 8

abbrev pub block_of : ℕ → ℕ
block_of va = va / 64 % 128

abbrev pub offset_of : ℕ → ℕ
offset_of va = va % 64

-- PAR 11:0
abbrev pub base_of : ℕ → ℕ
base_of par = par % 4096

-- PDR 14:8 and 3
abbrev pub length_of : ℕ → ℕ
length_of pdr = pdr / 256 % 128

abbrev pub ed_of : ℕ → ℕ
ed_of pdr = pdr / 8 % 2
