-- Register read and register write, at a place of the store.
use Rattle.std.specs.Prelude.{ℕ, cond, List, set, ltb, eqb}
use Rattle.std.specs.Int.Bits.{bit_or, bit_and}
use Rattle.rules.specs.Words.{word, PDR, SR0, SR3, implemented}

-- the implemented bits
abbrev pub read_at : List ℕ → ℕ → ℕ
read_at l place = bit_and (word l place) (implemented place)

-- PAR keeps 007777 and clears A and W of its page; PDR keeps 077417, which has neither; SR0 takes 171401 and keeps 7:1;
-- SR3 keeps 000017; SR1 and SR2 stay
unfoldable pub written_at : List ℕ → ℕ → ℕ → List ℕ
written_at l place value =
    cond (ltb place 48)
    (set (set l place (bit_and value 0o007777)) (PDR place) (bit_and (word l (PDR place)) 0o177477))
    (cond (ltb place 96) (set l place (bit_and value 0o077417))
    (cond (eqb place SR0) (set l SR0 (bit_or (bit_and value 0o171401) (bit_and (word l SR0) 0o000376)))
    (cond (eqb place SR3) (set l SR3 (bit_and value 0o000017)) l)))
