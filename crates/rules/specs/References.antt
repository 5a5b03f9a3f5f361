-- A reference that is not refused: rules 1 to 10 of document 01.
use Rattle.std.specs.Prelude.{ℕ, ◌+◌, ◌*◌, Bool, true, false, cond, ◌&&◌, ◌||◌, List, set, ltb, eqb, None, Some}
use Rattle.std.specs.Int.Bits.{bit_or, bit_and}
use Rattle.page.specs.Fields.{page_of, block_of}
use Rattle.page.specs.Length.{length_error}
use Rattle.page.specs.Sum.{byte_of}
use Rattle.rules.specs.Paper.{Paper, G, A}
use Rattle.rules.specs.Keys.{key_of, non_resident, read_only, traps_on_read, traps_on_write}
use Rattle.rules.specs.Words.{word, PDR, SR0, SR3, bit, relocates, traps_enabled, frozen, enables_d}
use Rattle.rules.specs.Addresses.{in_registers}
use Rattle.rules.specs.declared.Reference.{Reference}

-- a reference by its numbers
abbrev pub reference_of : ℕ → ℕ → ℕ → ℕ → ℕ → Reference
reference_of mode space access phase va = record { mode = mode; space = space; access = access; phase = phase; va = va }

-- rule 1: relocation off; from 160000 up the byte is VA + 600000
abbrev pub flat_byte : ℕ → ℕ
flat_byte va = cond (ltb va 0o160000) va (va + 0o600000)

-- rule 3: the mode's I set, or its D set if the space is data and SR3 enables D for that mode
abbrev pub uses_d : ℕ → ℕ → ℕ → Bool
uses_d sr3 mode space = eqb space 1 && enables_d sr3 mode

abbrev pub first_page : ℕ → ℕ
first_page mode = cond (eqb mode 0) 0 (cond (eqb mode 1) 16 32)

abbrev pub place_of : ℕ → Bool → ℕ → ℕ
place_of mode d va = first_page mode + 8 * bit d + page_of va

-- rule 3: the page that a reference uses, by its place
abbrev pub page_for : List ℕ → Reference → ℕ
page_for l r = place_of r.mode (uses_d (word l SR3) r.mode r.space) r.va

-- rule 4: each flag follows its own test; any flag means abort
abbrev pub non_resident_flag : ℕ → Bool
non_resident_flag pdr = non_resident (key_of pdr)

abbrev pub read_only_flag : ℕ → Bool → Bool
read_only_flag pdr write = write && read_only (key_of pdr)

abbrev pub aborts : ℕ → Bool → ℕ → Bool
aborts pdr write va = non_resident_flag pdr || length_error pdr (block_of va) || read_only_flag pdr write

-- rule 6: the trap condition
abbrev pub condition : ℕ → Bool → Bool
condition pdr write = cond write (traps_on_write (key_of pdr)) (traps_on_read (key_of pdr))

abbrev pub traps : ℕ → ℕ → Bool → Bool
traps sr0 pdr write = condition pdr write && traps_enabled sr0

-- rule 7: the condition sets A (bit 7), any write sets W (bit 6); neither where the byte lies in a register's word
abbrev pub marks_of : ℕ → Bool → Bool → ℕ
marks_of byte a w = cond (in_registers byte) 0 (bit a * 0o200 + bit w * 0o100)

-- rule 8: non-resident 15, length 14, read-only 13; a trap 12
abbrev pub abort_flags : Bool → Bool → Bool → ℕ
abort_flags nonresident length readonly = bit nonresident * 0o100000 + bit length * 0o40000 + bit readonly * 0o20000

abbrev pub trap_flag : Bool → ℕ
trap_flag trap = bit trap * 0o10000

-- rule 9: bit 7 the phase, 6:5 the mode, 4 the set used, 3:1 VA 15:13
abbrev pub details : ℕ → ℕ → Bool → ℕ → ℕ
details phase mode d va = phase * 128 + mode * 32 + bit d * 16 + page_of va * 2

-- rules 8 and 9: the flags are added; if SR0 was not frozen, an abort or trap loads 7:1 too
abbrev pub sr0_after : ℕ → ℕ → ℕ → ℕ
sr0_after sr0 flags loaded =
    cond (eqb flags 0) sr0
    (bit_or (cond (frozen sr0) sr0 (bit_or (bit_and sr0 0o177401) loaded)) flags)

-- rules 4 to 9, for the page at a place: the answer, which on a grant says the place, and the store afterwards
unfoldable pub ruled : List ℕ → ℕ → Bool → ℕ → ℕ → Paper × List ℕ
ruled l page write loaded va =
    let pdr = word l (PDR page) in
    let sr0 = word l SR0 in
    let nonresident = non_resident_flag pdr in
    let length = length_error pdr (block_of va) in
    let readonly = read_only_flag pdr write in
    let byte = byte_of (word l page) va in
    let trap = traps sr0 pdr write in
    cond (nonresident || length || readonly)
    (A nonresident length readonly, set l SR0 (sr0_after sr0 (abort_flags nonresident length readonly) loaded))
    (G byte trap (Some page), set (set l (PDR page) (bit_or pdr (marks_of byte (condition pdr write) write))) SR0 (sr0_after sr0 (trap_flag trap) loaded))

-- rule 3, and then the page found
unfoldable pub examined : List ℕ → Reference → Paper × List ℕ
examined l r =
    let d = uses_d (word l SR3) r.mode r.space in
    ruled l (page_for l r) (eqb r.access 1) (details r.phase r.mode d r.va) r.va

-- rule 2: no page is examined
unfoldable pub illegal_mode : List ℕ → Reference → Paper × List ℕ
illegal_mode l r = (A true false false, set l SR0 (sr0_after (word l SR0) (abort_flags true false false) (details r.phase 2 false r.va)))

-- rule 1 grants by no page (request E1)
unfoldable pub referred : List ℕ → Reference → Paper × List ℕ
referred l r =
    cond (relocates (word l SR0))
    (cond (eqb r.mode 2) (illegal_mode l r) (examined l r))
    (G (flat_byte r.va) false None, l)
