-- `right_of` meets its contract: the array is the list of the table's lines, so each entry is its key's line.
use mathlib.Core.Path.{refl}
use native.Mathlib.Omega.{arith}
use Prim.Native.Nat.{◌%◌}
use Rattle.rules.specs.Keys.{right_of}
use Rattle.rules.proofs.Values.{entry}
use Rattle.ruling.proofs.right_of.Goals as goal

pub returns : goal.returns
unfolding right_of
returns c = rw c.from-key.ensures (entry right_of _ 8 refl (c.args.pdr % 8) _ (omega arith))
