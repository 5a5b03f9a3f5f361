-- Rules 4 to 9 on the words of one page by value: the answer, and the page's PDR and SR0 afterwards.
use Rattle.std.specs.Prelude.{ℕ, Bool, cond, ◌&&◌, Some}
use Rattle.std.specs.Int.Bits.{bit_or}
use Rattle.page.specs.Fields.{block_of}
use Rattle.page.specs.Length.{length_error}
use Rattle.page.specs.Sum.{byte_of}
use Rattle.rules.specs.Paper.{Paper, G, A}
use Rattle.rules.specs.Words.{traps_enabled}
use Rattle.rules.specs.References.{non_resident_flag, read_only_flag, aborts, condition, marks_of, abort_flags, trap_flag, sr0_after}

abbrev pub Ruled : Type 0
Ruled = Paper × (ℕ × ℕ)

abbrev pub abort_of : ℕ → ℕ → Bool → Bool → Bool → ℕ → Ruled
abort_of pdr sr0 nonresident length readonly loaded =
    (A nonresident length readonly, (pdr, sr0_after sr0 (abort_flags nonresident length readonly) loaded))

-- a: the trap condition holds
abbrev pub grant_of : ℕ → ℕ → ℕ → ℕ → Bool → Bool → ℕ → Ruled
grant_of place byte pdr sr0 a write loaded =
    let trap = a && traps_enabled sr0 in
    (G byte trap (Some place), (bit_or pdr (marks_of byte a write), sr0_after sr0 (trap_flag trap) loaded))

unfoldable pub ruling_of : ℕ → ℕ → ℕ → ℕ → Bool → ℕ → ℕ → Ruled
ruling_of place par pdr sr0 write loaded va =
    cond (aborts pdr write va)
    (abort_of pdr sr0 (non_resident_flag pdr) (length_error pdr (block_of va)) (read_only_flag pdr write) loaded)
    (grant_of place (byte_of par va) pdr sr0 (condition pdr write) write loaded)
