-- The invariant: the pages that are left make of the present pass what all make of the first.
use mathlib.Core.Path.{◌≡◌}
use Prim.Native.Nat.{◌-◌, ◌≤◌}
use Rattle.rules.specs.Modes.{mode_number}
use Rattle.meetings.specs.Pass.{pages_pass, mode_pass}
use Rattle.meetings.proofs.Pass.sight_mode.Given as goal

abbrev pub invariant-loop-page : goal.invariant-loop-page
invariant-loop-page l =
    record {
      inside : l.end ≤ 48;
      left : pages_pass l.store l.page (l.end - l.page) l.self ≡ mode_pass l.store (mode_number l.fn.mode) l.fn.self;
    }
