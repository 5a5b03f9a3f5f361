-- A promise determines its result: the outcomes are equal pairs, and `paper` is one-to-one.
use mathlib.Core.Path.{sym, ◌∙◌, ap}
use mathlib.Core.List.{List}
use Prim.Native.Nat.{ℕ}
use Rattle.rules.specs.Paper.{Paper}
use Rattle.rules.proofs.Papers.{paper_one_to_one}
use Rattle.claims.specs.Determined.{Determined}

pub determined : Determined
determined l e a b m n p q =
    (paper_one_to_one a b (ap (λ (o : Paper × List ℕ). o.0) (p ∙ sym q)), ap (λ (o : Paper × List ℕ). o.1) (p ∙ sym q))
