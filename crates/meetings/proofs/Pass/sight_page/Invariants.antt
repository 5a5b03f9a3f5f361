-- The invariant: the blocks that are left make of the present pass what all make of the first.
use mathlib.Core.Path.{◌≡◌}
use Prim.Native.Nat.{◌-◌}
use Rattle.meetings.specs.Pass.{blocks_pass, first_block, end_block}
use Rattle.meetings.proofs.Pass.sight_page.Given as goal

abbrev pub invariant-loop-b : goal.invariant-loop-b
invariant-loop-b l =
    record {
      end : l.b-end ≡ end_block l.page.pdr;
      left : blocks_pass l.page.place l.page.par l.b (l.b-end - l.b) l.self ≡ blocks_pass l.page.place l.page.par (first_block l.page.pdr) (end_block l.page.pdr - first_block l.page.pdr) l.fn.self;
    }
