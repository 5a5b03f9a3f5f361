-- One more digit written before the others leaves one digit fewer to write.
use Prim.Native.Nat.{ℕ, suc, ◌+◌, ◌<◌, ◌/◌, ◌%◌}
use mathlib.Core.Path.{◌≡◌}
use mathlib.Core.List.{List}
use native.Mathlib.Numerals.{add-one}
use lib.ListN.{length, set, drop}
use Rattle.std.proofs.lemmas.List.{drop-set}
use Rattle.lines.specs.Digits.{digits}

pub one_more : (base n : ℕ) (text : List ℕ) (j : ℕ) → j < length text
    → digits base j (n / base) (drop j (set text j (48 + n % base))) ≡ digits base (suc j) n (drop (suc j) text)
one_more base n text j h = rw (drop-set text j (48 + n % base) h, add-one)
