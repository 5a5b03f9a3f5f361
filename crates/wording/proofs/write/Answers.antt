-- `write` meets its contract: room is tested first; then the text stands at the start.
use native.Mathlib.Omega.{arith}
use borrow.Author.Rules.{rules}
use borrow.Author.Tests.{lt-ltb, le-ltb}
use Rattle.wording.specs.Texts.{placed_of}
use Rattle.wording.proofs.Chain.{at-start}
use Rattle.wording.proofs.write.Goals as goal

pub returns-then-out-lt320 : goal.returns-then-out-lt320
unfolding placed_of
returns-then-out-lt320 c = (rw (lt-ltb _ _ c.if-out-lt320.true), search rules)

pub returns : goal.returns
unfolding placed_of
returns c =
    let w = c.put_report.ensures in
    (rw (le-ltb _ _ c.if-out-lt320.false) (at-start _ _ _ _ w.0 (omega (arith, w.1))), search rules)
