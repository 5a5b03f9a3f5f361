-- The digits from a place on are written; those that are left come before them.
use Rattle.std.proofs.Common.{◌≡◌, [], length, drop}
use Rattle.lines.specs.Digits.{digits as digits_of}
use Rattle.lines.proofs.digits.digits.Given as goal

abbrev pub invariant-loop-i : goal.invariant-loop-i
invariant-loop-i g l = record {
  written : digits_of g.row.BASE l.i l.left (drop l.i l.text) ≡ digits_of g.row.BASE g.row.WIDTH l.fn.n [];
  whole : length l.text ≡ g.row.WIDTH;
}
