-- The two parts make the bytes inside the limit.
use Rattle.pieces.proofs.Within.{lent}
use Rattle.pieces.proofs.inside.Goals as goal

pub returns-clause-joined : goal.returns-clause-joined
returns-clause-joined c =
    let a = c.saturating_sub-allowed.ensures in
    lent c.args.begun.now c.args.piece.now _ _ _ c.bytes-held.ensures (rw a at c.min.ensures) (rw a at c.min-2.ensures)
