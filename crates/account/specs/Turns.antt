-- What the code carries from record to record. That it comes to the report is shown in proofs/.
use Rattle.std.specs.Prelude.{ℕ, Bool, cond, Ok, Err, Some, None}
use Rattle.std.specs.declared.option.Option.{Option}
use Rattle.auditing.specs.Verdicts.{Verdict}
use Rattle.account.specs.declared.Tally.{Tally}
use Rattle.account.specs.Reports.{Broken, break_at, or_earlier}

-- kept from here on, if relocation is on
abbrev pub fresh : Bool → ℕ → Option ℕ
fresh on at = cond on (Some at) None

abbrev pub or_fresh : Option ℕ → Bool → ℕ → Option ℕ
or_fresh (Some from) on at = Some from
or_fresh None on at = fresh on at

-- what is kept after a record: a step that is not permitted ends what was kept so far
abbrev pub kept_after : Option ℕ → Verdict → Bool → ℕ → Option ℕ
kept_after kept (Ok None) on next = or_fresh kept on next
kept_after kept (Ok (Some reason)) on next = fresh on next
kept_after kept (Err r) on next = fresh on next

abbrev pub broken_after : Broken → Verdict → ℕ → Broken
broken_after broken verdict at = or_earlier (break_at at verdict) broken

-- both, where a record begins at a byte and the next one at another
abbrev pub tally_after : Tally → Verdict → Bool → ℕ → ℕ → Tally
tally_after t verdict on at next = record { kept = kept_after t.kept verdict on next; broken = broken_after t.broken verdict at }
