-- Rule 5: (PAR low twelve bits + block) modulo 4096, times 64, plus VA 5:0.
use Rattle.std.specs.Prelude.{ℕ, ◌+◌, ◌*◌, ◌%◌}
use Rattle.page.specs.Fields.{base_of, block_of, offset_of}

-- the block of memory that a page's block b lies in
abbrev pub memory_block : ℕ → ℕ → ℕ
memory_block par b = (base_of par + b) % 4096

abbrev pub byte_of : ℕ → ℕ → ℕ
byte_of par va = memory_block par (block_of va) * 64 + offset_of va
