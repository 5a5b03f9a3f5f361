-- The byte of a change, or its refusal by 9; and a good change entered in SR1 of a store that is not frozen, or refused by 10.
use Rattle.std.specs.Prelude.{ℕ, cond, not, ◌||◌, List, set, ltb, ℤ, Result, Ok, Err}
use Rattle.rules.specs.Paper.{Paper, D, X}
use Rattle.rules.specs.Words.{word, SR1}
use Rattle.rules.specs.Others.{good_amount, change_byte, both_used, with_change}
use Rattle.rules.specs.declared.Refusal.{Refusal}
use Rattle.rules.specs.declared.Refusal.TheVariants.{BadChange}

unfoldable pub byte_of : ℕ → ℤ → Result ℕ Refusal
byte_of register amount = cond (ltb 7 register || not (good_amount amount)) (Err BadChange) (Ok (change_byte register amount))

unfoldable pub entered : List ℕ → ℕ → Paper × List ℕ
entered l byte = cond (both_used (word l SR1)) (X 10, l) (D, set l SR1 (with_change (word l SR1) byte))
