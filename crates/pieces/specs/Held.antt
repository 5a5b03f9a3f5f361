-- A few bytes by value: those of a begun record, of which the longest has seven.
use Rattle.std.specs.Prelude.{ℕ, ◌-◌, List, ◌++◌, length, take, replicate}
use Rattle.pieces.specs.declared.Held.{Held}

abbrev pub longest_record : ℕ
longest_record = 7

-- the bytes held
abbrev pub bytes_of : Held → List ℕ
bytes_of h = take h.count h.bytes

-- the first seven of some bytes, held: after them stand zeros
unfoldable pub held_of : List ℕ → Held
held_of xs = record { bytes = take longest_record xs ++ replicate (longest_record - length xs) 0; count = length (take longest_record xs) }
