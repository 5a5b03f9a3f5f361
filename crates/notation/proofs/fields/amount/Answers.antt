-- By its sign: the number after a minus is negated.
use Rattle.std.proofs.Common.{arith}
use Rattle.notation.proofs.Signs.{no_amount, minus_sign, plus_sign, no_sign, small}
use Rattle.notation.proofs.fields.amount.Goals as goal

pub returns-in_err-sign : goal.returns-in_err-sign
returns-in_err-sign c = rw c.from_residual.ensures (no_amount _ c.in_err-sign.ensures.cases)

pub returns-in_err-signed-in-45 : goal.returns-in_err-signed-in-45
returns-in_err-signed-in-45 c =
    rw (
      c.from_residual-in_err-signed-in-45.ensures,
      c.in_ok-sign.ensures.cases.0,
      minus_sign _ c.in_ok-sign.digits.now c.in-45.is,
      ← c.signed.ensures.value,
      c.in_err-signed-in-45.was,
    )

pub returns-in_ok-signed-in-45 : goal.returns-in_ok-signed-in-45
returns-in_ok-signed-in-45 c =
    rw (
      small c.in_ok-signed-in-45.field-0 c.in_ok-signed-in-45.ensures.within,
      c.in_ok-sign.ensures.cases.0,
      minus_sign _ c.in_ok-sign.digits.now c.in-45.is,
      ← c.signed.ensures.value,
      c.in_ok-signed-in-45.was,
    )

pub returns-in-43 : goal.returns-in-43
returns-in-43 c =
    rw (c.in_ok-sign.ensures.cases.0, plus_sign _ c.in_ok-sign.digits.now c.in-43.is) c.signed-in-43.ensures.value

pub returns-in_default : goal.returns-in_default
returns-in_default c =
    let sign = c.in_ok-sign.sign.now in
    let digits = c.in_ok-sign.digits.now in
    let whole = c.in_ok-sign.ensures.cases.0 in
    rw (whole, no_sign sign digits (λ e. omega arith) (λ e. omega arith)) (rw whole at c.signed-in_default.ensures.value)
