-- `over` meets its contract: a mode's pages sighted are one turn, and with no mode left the pass is whole.
use mathlib.Core.Path.{sym, ◌∙◌}
use Rattle.rules.specs.declared.modes.Mode.TheVariants.{Kernel}
use Rattle.meetings.proofs.Modes.{modes_first, modes_next}
use Rattle.meetings.proofs.Pass.over.Goals as goal

pub loop-mode-init : goal.loop-mode-init
loop-mode-init c = modes_first _

pub loop-mode-preserved : goal.loop-mode-preserved
loop-mode-preserved c = rw c.sight_mode.ensures (sym (modes_next _ _ _ _ Kernel c.loop-mode-test.true) ∙ c.loop-mode.invariant)
