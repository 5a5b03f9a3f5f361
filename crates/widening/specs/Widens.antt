-- 01, "Widening": the page writes that widen. "New" is the value written; to take it as it is stored gives the same.
use Rattle.std.specs.Prelude.{ℕ, ◌≡◌, Bool, true, cond, not, ◌&&◌, ◌||◌, List, leb, ltb, eqb}
use Rattle.std.specs.Int.Bits.{bit_and}
use Rattle.page.specs.Fields.{base_of, length_of, ed_of}
use Rattle.rules.specs.Keys.{key_of, non_resident, read_only}
use Rattle.rules.specs.Words.{word, PDR}
use Rattle.rules.specs.Addresses.{register_at}
use Rattle.rules.specs.declared.Event.{Event}
use Rattle.rules.specs.declared.Event.TheVariants.{Refer, Read, Write, Instruction, Interrupt, Change, Init}

-- the rights of a key: keys 1 and 2 read, keys 4, 5 and 6 read and write
abbrev pub reads : ℕ → Bool
reads key = not (non_resident key)

abbrev pub writes : ℕ → Bool
writes key = not (non_resident key) && not (read_only key)

-- the new key has at least the old rights
abbrev pub keeps_rights : ℕ → ℕ → Bool
keeps_rights old new = (not (reads old) || reads new) && (not (writes old) || writes new)

-- the length field is no smaller (ED 0) or no larger (ED 1)
abbrev pub keeps_blocks : ℕ → ℕ → Bool
keeps_blocks old new = cond (eqb (ed_of old) 0) (leb (length_of old) (length_of new)) (leb (length_of new) (length_of old))

-- a PAR write, given the page's PDR: its key is 0, 3 or 7, or the twelve bits stay
unfoldable pub widens_par : ℕ → ℕ → ℕ → Bool
widens_par pdr old new = non_resident (key_of pdr) || eqb (base_of new) (base_of old)

-- a PDR write: the old key is 0, 3 or 7; or ED stays, the length allows no fewer blocks, and the new key has at least the old rights
unfoldable pub widens_pdr : ℕ → ℕ → Bool
widens_pdr old new =
    non_resident (key_of old)
    || (eqb (ed_of new) (ed_of old) && keeps_blocks old new && keeps_rights (key_of old) (key_of new))

-- a PAR write stores 007777 of the value, a PDR write 077417
abbrev pub StoredAlike : Type 0
StoredAlike =
    (pdr old new : ℕ)
    → (widens_par pdr old (bit_and new 0o007777) ≡ widens_par pdr old new) × (widens_pdr old (bit_and new 0o077417) ≡ widens_pdr old new)

-- a write at a place of the store: of a page, it widens; SR0 to SR3 are no page's
unfoldable pub widens_at : List ℕ → ℕ → ℕ → Bool
widens_at l place value =
    cond (ltb place 48) (widens_par (word l (PDR place)) (word l place) value)
    (cond (ltb place 96) (widens_pdr (word l place) value) true)

-- an event: a write to a page widens; no other event writes a page's registers
abbrev pub widens : List ℕ → Event → Bool
widens l (Refer r) = true
widens l (Read address) = true
widens l (Write address value) = widens_at l (register_at address) value
widens l (Instruction va) = true
widens l (Interrupt vector) = true
widens l (Change register amount) = true
widens l Init = true
