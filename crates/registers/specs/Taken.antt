-- The bits that a page's register takes from a write: a PAR 007777, a PDR 077417.
use Rattle.std.specs.Prelude.{ℕ, cond, ltb}

abbrev pub taken_of : ℕ → ℕ
taken_of place = cond (ltb place 48) 0o007777 0o077417
