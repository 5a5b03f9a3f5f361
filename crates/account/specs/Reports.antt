-- What the report of a run says, in terms of demand 3's premises.
use Rattle.std.specs.Prelude.{ℕ, cond, ◌&&◌, List, [], ◌∷◌, length, eqb, Result, Ok, Err, Some, None}
use Rattle.std.specs.declared.option.Option.{Option}
use Rattle.rules.specs.Words.{word, SR0, relocates}
use Rattle.rules.specs.declared.Event.{Event}
use Rattle.rules.specs.declared.Refusal.{Refusal}
use Rattle.rules.specs.declared.Refusal.TheVariants.{Store}
use Rattle.pieces.specs.Limit.{records_of}
use Rattle.widening.specs.Runs.{calm}
use Rattle.auditing.specs.Verdicts.{Verdict, verdict_of}
use Rattle.auditing.specs.declared.Reason.{Reason}
use Rattle.meetings.specs.Parting.{parting_of}
use Rattle.account.specs.declared.Course.{Course}
use Rattle.account.specs.declared.Report.{Report}
use Rattle.account.specs.Runs.{Point, Run, run}

-- a record that broke a premise, by its first byte, and the premise
abbrev pub Broken : Type 0
Broken = Option (ℕ × Reason)

abbrev pub events_of : List Point → List Event
events_of [] = []
events_of (p ∷ ps) = p.event ∷ events_of ps

-- the earliest offset from which the premises of demand 3 hold to the end: relocation is on in the store there, and every later
-- step is permitted. It may be the end itself, at an offset with a store
abbrev pub kept_from : List Point → ℕ → List ℕ → Option ℕ
kept_from [] at l = cond (relocates (word l SR0)) (Some at) None
kept_from (p ∷ ps) at l =
    cond (relocates (word p.store SR0) && calm p.store (p.event ∷ events_of ps)) (Some p.at) (kept_from ps at l)

-- the last record whose step is not permitted, and the first premise that it breaks
abbrev pub break_at : ℕ → Verdict → Broken
break_at at (Ok None) = None
break_at at (Ok (Some reason)) = Some (at, reason)
break_at at (Err r) = None

abbrev pub or_earlier : Broken → Broken → Broken
or_earlier (Some later) earlier = Some later
or_earlier None earlier = earlier

abbrev pub last_broken : List Point → Broken
last_broken [] = None
last_broken (p ∷ ps) = or_earlier (last_broken ps) (break_at p.at (verdict_of p.store p.event))

-- what a run's records tell, and the last store
abbrev pub course_of : Run → Course × List ℕ
course_of q = (
  record {
    tally = record { kept = kept_from q.points q.at q.store; broken = last_broken q.points };
    at = q.at;
    ending = q.ending;
  },
  q.store,
)

-- the report of a course, with the last store's map
abbrev pub reported : Course × List ℕ → Result Report Refusal × List ℕ
reported c = (Ok (record { course = c.0; map = parting_of c.1 }), c.1)

-- the audit of a whole recording: 1 is tested first
unfoldable pub audit_of : List ℕ → List ℕ → Result Report Refusal × List ℕ
audit_of l r = cond (eqb (length l) 100) (reported (course_of (run (records_of r) 0 l))) (Err Store, l)
