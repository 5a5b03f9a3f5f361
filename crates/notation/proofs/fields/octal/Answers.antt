-- The next character is a digit and goes into the number, or the word is no number of its field.
use Rattle.std.proofs.Common.{arith, eqb-true, get_or, sym, ◌∙◌}
use Rattle.std.proofs.lemmas.Bool.{eqb-false}
use Rattle.notation.proofs.Octals.{no_digits, begins, below-digits, above-digits, one_more, no_digit, exceeds, complete}
use Rattle.notation.proofs.fields.octal.Goals as goal

pub returns-then-is_empty-clause-value : goal.returns-then-is_empty-clause-value
returns-then-is_empty-clause-value c =
    no_digits _ _ (eqb-true _ _ (sym c.is_empty.ensures ∙ c.if-is_empty.true))

pub loop-c-init : goal.loop-c-init
loop-c-init c = record {
  left = begins _ _ (eqb-false _ _ (sym c.is_empty.ensures ∙ c.if-is_empty.false));
  within = omega arith;
}

pub loop-c-preserved : goal.loop-c-preserved
loop-c-preserved c = let l = c.loop-c in record {
  left = rw c.from.ensures (one_more _ _ _ _ l.invariant.left c.loop-c-test.true (omega arith) (omega arith));
  within = omega arith;
}

pub returns-in_default-clause-value : goal.returns-in_default-clause-value
returns-in_default-clause-value c =
    no_digit _ _ _ _ c.loop-c.invariant.left c.loop-c-test.true (below-digits (get_or c.args.word.now c.loop-c.c-index 0) (omega arith))

pub returns-in_default-2-clause-value : goal.returns-in_default-2-clause-value
returns-in_default-2-clause-value c =
    no_digit _ _ _ _ c.loop-c.invariant.left c.loop-c-test.true (above-digits (get_or c.args.word.now c.loop-c.c-index 0) (omega arith))

pub returns-then-most-n-clause-value : goal.returns-then-most-n-clause-value
returns-then-most-n-clause-value c =
    exceeds _ _ _ _ c.loop-c.invariant.left c.loop-c-test.true (omega arith) (omega arith) (omega (arith, c.from.ensures))

pub returns-clause-value : goal.returns-clause-value
returns-clause-value c =
    let l = c.loop-c in
    complete _ _ _ _ l.invariant.left c.loop-c-test.false l.invariant.within
