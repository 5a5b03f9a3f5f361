-- The example run is permitted and its modes end apart: computed, with an owner named for each block.
use Prim.Native.Nat.{ℕ}
use mathlib.Core.Path.{refl}
use mathlib.Core.Bool.{cond}
use lib.Dec.{ltb}
use Rattle.page.specs.Length.{length_error}
use Rattle.rules.specs.Addresses.{register_at}
use Rattle.rules.specs.References.{referred, illegal_mode, examined, ruled}
use Rattle.rules.specs.Registers.{written_at}
use Rattle.rules.specs.Refusals.{refusal_of}
use Rattle.rules.specs.Step.{step, accepted}
use Rattle.widening.specs.Widens.{widens_at, widens_par, widens_pdr}
use Rattle.widening.specs.Runs.{permitted, after}
use Rattle.widening.specs.Example.{Example, start, run}
use Rattle.widening.proofs.Owned.{owned, stray_mode, strays, stray, owned-apart}

abbrev owner : ℕ → ℕ
owner block = cond (ltb block 0o1000) 0 (cond (ltb block 0o2000) 1 3)

pub example : Example
unfolding step accepted refusal_of referred illegal_mode examined ruled written_at length_error register_at widens_at widens_par widens_pdr permitted owned stray_mode strays stray
example =
    record {
      on = record { whole = refl; relocating = refl };
      steps = refl;
      given = refl;
      parted = owned-apart owner (after start run) refl;
    }
