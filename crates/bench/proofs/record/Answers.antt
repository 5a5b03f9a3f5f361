-- `record` meets its contract: the bytes appended are counted in a code, since they are seven at the most.
use native.Mathlib.Omega.{arith}
use Rattle.bench.proofs.Appended.{appended}
use Rattle.bench.proofs.record.Goals as goal

pub overflow_sub-result : goal.overflow_sub-result
overflow_sub-result c =
    (appended _ _ _ _ _ (rw c.in-Ok.is at c.write.ensures)).0

pub overflow_cast-result : goal.overflow_cast-result
overflow_cast-result c =
    let seven = (appended _ _ _ _ _ (rw c.in-Ok.is at c.write.ensures)).1 in
    omega (arith, seven)

pub overflow_add-result : goal.overflow_add-result
overflow_add-result c =
    let seven = (appended _ _ _ _ _ (rw c.in-Ok.is at c.write.ensures)).1 in
    omega (arith, seven)
