-- One pass over the pages that the modes may use, in store order. That it finds the lowest shared block is shown in proofs/.
use Rattle.std.specs.Prelude.{Bool, true, cond, List, ℕ, zero, suc, ◌+◌, ◌-◌, ◌/◌, eqb, ltb, get_or, set, replicate, None, Some}
use Rattle.std.specs.declared.option.Option.{Option}
use Rattle.page.specs.Fields.{ed_of, length_of}
use Rattle.page.specs.Sum.{memory_block}
use Rattle.rules.specs.Keys.{key_of, non_resident}
use Rattle.rules.specs.Words.{word, PDR, SR3}
use Rattle.rules.specs.References.{first_page}
use Rattle.widening.specs.Reaches.{pages_of}
use Rattle.meetings.specs.declared.Meeting.{Meeting}
use Rattle.meetings.specs.declared.Pass.{Pass}

-- a block lies below the lowest meeting so far, if there is one
abbrev pub is_below : ℕ → Option Meeting → Bool
is_below block None = true
is_below block (Some lowest) = ltb block lowest.block

-- a meeting of two modes is kept if it is the lowest
unfoldable pub met : Meeting → Pass → Pass
met m s = cond (is_below m.block s.lowest) (record { owners = s.owners; lowest = Some m }) s

-- a page reaches a block that has an owner or none: it becomes its owner, or meets one of its own mode, or one of another
abbrev pub sighted_by : Option ℕ → ℕ → ℕ → Pass → Pass
sighted_by None page block s = record { owners = set s.owners block (Some page); lowest = s.lowest }
sighted_by (Some owner) page block s =
    cond (eqb (owner / 16) (page / 16)) s (met (record { block = block; first = owner; second = page }) s)

unfoldable pub sighted : ℕ → ℕ → Pass → Pass
sighted page block s = sighted_by (get_or s.owners block None) page block s

-- n blocks of a page from b on
unfoldable pub blocks_pass : ℕ → ℕ → ℕ → ℕ → Pass → Pass
blocks_pass page par b zero s = s
blocks_pass page par b (suc n) s = blocks_pass page par (suc b) n (sighted page (memory_block par b) s)

-- the allowed blocks: 0 to the length field (ED 0), or the length field to 127 (ED 1)
abbrev pub first_block : ℕ → ℕ
first_block pdr = cond (eqb (ed_of pdr) 0) 0 (length_of pdr)

abbrev pub end_block : ℕ → ℕ
end_block pdr = cond (eqb (ed_of pdr) 0) (length_of pdr + 1) 128

unfoldable pub page_pass : ℕ → ℕ → ℕ → Pass → Pass
page_pass page par pdr s = cond (non_resident (key_of pdr)) s (blocks_pass page par (first_block pdr) (end_block pdr - first_block pdr) s)

-- n pages from a page on
unfoldable pub pages_pass : List ℕ → ℕ → ℕ → Pass → Pass
pages_pass l page zero s = s
pages_pass l page (suc n) s = pages_pass l (suc page) n (page_pass page (word l page) (word l (PDR page)) s)

abbrev pub mode_pass : List ℕ → ℕ → Pass → Pass
mode_pass l mode s = pages_pass l (first_page mode) (pages_of (word l SR3) mode) s

abbrev pub start : Pass
start = record { owners = replicate 4096 None; lowest = None }

-- Kernel, then Supervisor, then User
unfoldable pub whole_pass : List ℕ → Pass
whole_pass l = mode_pass l 3 (mode_pass l 1 (mode_pass l 0 start))
