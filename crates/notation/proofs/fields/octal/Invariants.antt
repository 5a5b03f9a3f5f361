-- The word's number goes on from the digits that were read.
use Rattle.std.proofs.Common.{◌≡◌, ◌≤◌, drop}
use Rattle.notation.specs.Fields.{octal_up_to, up_to, octal_from}
use Rattle.notation.proofs.fields.octal.Given as goal

abbrev pub invariant-loop-c : goal.invariant-loop-c
invariant-loop-c l = record {
  left : octal_up_to l.most l.word ≡ up_to l.most (octal_from l.n (drop l.c-index l.word));
  within : l.n ≤ l.most;
}
