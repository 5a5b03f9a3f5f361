-- What an audit comes to where nothing failed and the bytes of the input are known: the output gains the report of them all, and the store
-- is that after their last record.
use Rattle.std.specs.Prelude.{ℕ, ◌≡◌, List, Result, OnOk, IfSome}
use Rattle.std.specs.declared.option.Option.{Option}
use Rattle.std.specs.Io.KnownBytes.{Appends}
use Rattle.account.specs.Reports.{audit_of}
use Rattle.wording.specs.Texts.{text_of}

abbrev pub Audits : {T E : Type 0} → Result T E → Option (List ℕ) → Option (List ℕ) → Option (List ℕ) → List ℕ → List ℕ → Type 0
Audits result input before after l l' =
    OnOk result (IfSome input (λ bytes. Appends before after (text_of (audit_of l bytes).0) × (l' ≡ (audit_of l bytes).1)))
