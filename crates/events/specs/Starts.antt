-- A start with either event's number.
use Rattle.std.specs.Prelude.{ℕ, cond, List, length, eqb}
use Rattle.rules.specs.Paper.{Paper, D, X}
use Rattle.rules.specs.Others.{started}

unfoldable pub start_of : List ℕ → ℕ → Paper × List ℕ
start_of l n = cond (eqb (length l) 100) (D, started l n) (X 1, l)
