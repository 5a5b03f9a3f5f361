-- `apart` meets its contract: the whole pass finds the lowest shared block.
use borrow.Author.Rules.{rules}
use mathlib.Core.Path.{◌≡◌}
use lib.ListN.{length}
use borrow.Author.Tests.{eq-eqb}
use Rattle.meetings.specs.Parting.{parting_of}
use Rattle.meetings.proofs.Lowest.{found}
use Rattle.meetings.proofs.apart.Goals as goal

pub returns : goal.returns
unfolding parting_of
returns c = let w : length c.args.s.now ≡ 100 = search rules in let s : c.in_ok-store.store.now ≡ c.args.s.now = search rules in rw (eq-eqb _ _ w, c.over.ensures, s, found)
