-- What lies ready is offered as a part of the buffer: some bytes, unless no more come.
use mathlib.Core.Path.{◌≡◌, refl}
use mathlib.Core.Bool.{Bool, true, false}
use mathlib.Core.List.{List}
use Prim.Native.Nat.{ℕ, ◌-◌}
use native.Mathlib.Omega.{arith}
use lib.ListN.{length, take, drop, length-drop}
use lib.Seq.{length-take-le}
use Rattle.pieces.specs.Begun.{Offers}
use Rattle.stream.specs.Ready.{Ready}
use Rattle.stream.specs.declared.Input.{Input}

-- the bytes that lie ready, lent as a part of the buffer
pub ready-length : (i : Input) (buffer : List ℕ) → Ready i buffer → length (take (i.to - i.from) (drop i.from buffer)) ≡ i.to - i.from
ready-length i buffer r =
    let n = length-drop i.from buffer in
    length-take-le (i.to - i.from) (drop i.from buffer) (omega (arith, n, r.within, r.order))

pub offered : (i : Input) (buffer : List ℕ) → Ready i buffer → Offers (take (i.to - i.from) (drop i.from buffer)) i.last
offered i buffer r = by i.last refl
  where
    by : (t : Bool) → i.last ≡ t → Offers (take (i.to - i.from) (drop i.from buffer)) t
    by true e = tt
    by false e = let n = ready-length i buffer r in omega (arith, n, r.some e)
