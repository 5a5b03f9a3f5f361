-- What a replay comes to where nothing failed and the bytes of the input are known: the output gains their transcript, and the store is
-- that after their last record.
use Rattle.std.specs.Prelude.{ℕ, ◌≡◌, List, Result, OnOk, IfSome}
use Rattle.std.specs.declared.option.Option.{Option}
use Rattle.std.specs.Io.KnownBytes.{Appends}
use Rattle.transcript.specs.Transcript.{transcript}

abbrev pub Replayed : {T E : Type 0} → Result T E → Option (List ℕ) → Option (List ℕ) → Option (List ℕ) → List ℕ → List ℕ → Type 0
Replayed result input before after l l' =
    OnOk result (IfSome input (λ bytes. Appends before after (transcript bytes l).0 × (l' ≡ (transcript bytes l).1)))
