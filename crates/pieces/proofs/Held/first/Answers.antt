-- Both parts from the place on are cut to seven bytes together, and put over seven zeros.
use lib.ListN.{length, drop, length-drop}
use lib.Seq.{take_all}
use native.Mathlib.Omega.{arith}
use Prim.Native.Nat.{◌-◌}
use Rattle.pieces.proofs.Gathered.{first_held}
use Rattle.pieces.proofs.Held.first.Goals as goal

pub returns : goal.returns
returns c =
    let a = c.args in
    let f = take_all (length a.front.now - c.min.result) (drop c.min.result a.front.now) (omega (arith, length-drop c.min.result a.front.now)) in
    let b = take_all (length a.back.now - c.min-2.result) (drop c.min-2.result a.back.now) (omega (arith, length-drop c.min-2.result a.back.now)) in
    let x = rw f at c.copy_from_slice.ensures.after in
    let y = rw b at c.copy_from_slice-2.ensures.after in
    let s = rw f at c.min-seam.ensures in
    let m = rw b at c.min-3.ensures in
    first_held _ _ _ _ _ _ _ _ _ c.min.ensures (rw (← c.saturating_sub-left.ensures) c.min-2.ensures) s m x y
