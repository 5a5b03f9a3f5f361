-- No line is empty, and none is longer than the longest, a grant's: each kind's length computes.
use Prim.Native.Nat.{ℕ, ◌<◌}
use Rattle.std.specs.declared.option.Option.{Option}
use mathlib.Core.Path.{◌≡◌}
use mathlib.Core.Bool.{Bool}
use lib.ListN.{length}
use lib.Dec.{lit≤, lit<}
use Rattle.rules.specs.Paper.{Paper, G, A, R, D, X}
use Rattle.lines.specs.Lines.{line_of, longest, NoneLonger}
use Rattle.lines.proofs.Served.{two_characters}

pub granted-longest : (byte : ℕ) (trap : Bool) (served : Option ℕ) → length (line_of (G byte trap served)) ≡ longest
unfolding line_of
granted-longest byte trap served = rw (two_characters served)

pub some : (p : Paper) → 0 < length (line_of p)
unfolding line_of
some (G byte trap served) = rw (granted-longest byte trap served) (lit< tt)
some (A nonresident length readonly) = lit< tt
some (R word) = lit< tt
some D = lit< tt
some (X number) = lit< tt

pub most : NoneLonger
unfolding line_of
most (G byte trap served) = rw (granted-longest byte trap served) (lit≤ tt)
most (A nonresident length readonly) = lit≤ tt
most (R word) = lit≤ tt
most D = lit≤ tt
most (X number) = lit≤ tt
