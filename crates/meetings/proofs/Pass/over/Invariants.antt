-- The invariant: the modes that are left make of the present pass the whole one.
use mathlib.Core.Path.{◌≡◌}
use lib.ListN.{drop}
use Rattle.meetings.specs.Pass.{whole_pass}
use Rattle.meetings.proofs.Modes.{modes_pass}
use Rattle.meetings.proofs.Pass.over.Given as goal

abbrev pub invariant-loop-mode : goal.invariant-loop-mode
invariant-loop-mode l = modes_pass l.store (drop l.mode-index l.mode-items) l.pass ≡ whole_pass l.store
