-- A refusal's number is at most 14.
use Prim.Native.Nat.{◌≤◌}
use native.Mathlib.Omega.{arith}
use Rattle.rules.specs.Paper.{number}
use Rattle.rules.specs.declared.Refusal.{Refusal}
use Rattle.rules.specs.declared.Refusal.TheVariants.{
  Store,
  Mode,
  Space,
  Access,
  Phase,
  High,
  Odd,
  NoRegister,
  BadChange,
  Full,
  Kind,
  Cut,
  Long,
  Room,
}

pub at_most_14 : (r : Refusal) → number r ≤ 14
at_most_14 Store = omega arith
at_most_14 Mode = omega arith
at_most_14 Space = omega arith
at_most_14 Access = omega arith
at_most_14 Phase = omega arith
at_most_14 High = omega arith
at_most_14 Odd = omega arith
at_most_14 NoRegister = omega arith
at_most_14 BadChange = omega arith
at_most_14 Full = omega arith
at_most_14 Kind = omega arith
at_most_14 Cut = omega arith
at_most_14 Long = omega arith
at_most_14 Room = omega arith
