-- The eight keys of a page (PDR 2:0): Table 2-2 of the manual, rules 4 and 6 of 01.
use Rattle.std.specs.Prelude.{ℕ, ◌%◌, Bool, not, ◌&&◌, ◌||◌, eqb}
use Rattle.rules.specs.declared.Right.{Right}

abbrev pub key_of : ℕ → ℕ
key_of pdr = pdr % 8

-- rule 4: keys 0, 3 and 7 are non-resident, keys 1 and 2 allow no write
abbrev pub non_resident : ℕ → Bool
non_resident key = eqb key 0 || eqb key 3 || eqb key 7

abbrev pub read_only : ℕ → Bool
read_only key = eqb key 1 || eqb key 2

-- rule 6: key 1 read; key 4; key 5 write
abbrev pub traps_on_read : ℕ → Bool
traps_on_read key = eqb key 1 || eqb key 4

abbrev pub traps_on_write : ℕ → Bool
traps_on_write key = eqb key 4 || eqb key 5

-- a key's line in the table
unfoldable pub right_of : ℕ → Right
right_of key =
    record {
      read = not (non_resident key);
      write = not (non_resident key) && not (read_only key);
      readtrap = traps_on_read key;
      writetrap = traps_on_write key;
    }
