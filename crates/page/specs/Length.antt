-- Rule 4, length: with ED 0, a block greater than the length field; with ED 1, a block less than it.
use Rattle.std.specs.Prelude.{ℕ, Bool, cond, ltb, eqb}
use Rattle.page.specs.Fields.{length_of, ed_of}

unfoldable pub length_error : ℕ → ℕ → Bool
length_error pdr block = cond (eqb (ed_of pdr) 0) (ltb (length_of pdr) block) (ltb block (length_of pdr))
