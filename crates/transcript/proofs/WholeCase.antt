-- The whole case of 01: the definitions compute it.
use mathlib.Core.Path.{refl}
use Rattle.page.specs.Length.{length_error}
use Rattle.rules.specs.Addresses.{register_at}
use Rattle.rules.specs.References.{referred, illegal_mode, examined, ruled}
use Rattle.rules.specs.Registers.{written_at}
use Rattle.rules.specs.Refusals.{refusal_of}
use Rattle.rules.specs.Step.{step, accepted}
use Rattle.records.specs.Records.{event_of, record_at}
use Rattle.records.specs.Recordings.{records_within}
use Rattle.lines.specs.Lines.{line_of}
use Rattle.pieces.specs.Limit.{records_of}
use Rattle.transcript.specs.Transcript.{told, transcript}
use Rattle.transcript.specs.Claims.{WholeCase}

pub whole_case : WholeCase
unfolding transcript told records_of records_within record_at event_of line_of step accepted refusal_of referred illegal_mode examined ruled written_at length_error register_at
whole_case = refl
