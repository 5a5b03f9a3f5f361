-- The starred readings hold: the definitions compute them.
use mathlib.Core.Path.{refl}
use Rattle.rules.specs.Addresses.{register_at}
use Rattle.rules.specs.References.{referred, illegal_mode, examined, ruled}
use Rattle.rules.specs.Others.{noted}
use Rattle.rules.specs.Refusals.{refusal_of}
use Rattle.rules.specs.Step.{step, accepted}
use Rattle.page.specs.Length.{length_error}
use Rattle.claims.specs.Readings.{Readings}

pub readings : Readings
unfolding step accepted refusal_of referred illegal_mode examined ruled noted length_error register_at
readings = refl
