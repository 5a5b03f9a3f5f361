-- What a caller has whose call of `more` went well, its error mapped to another.
use Rattle.std.proofs.Common.{ℕ, List, length, ◌≡◌, ◌<◌, true, Result, Ok, Err, MatchResult, IfOk}
use Rattle.std.proofs.lemmas.Result.{IfOk-at_ok}
use Rattle.std.specs.declared.option.Option.{Option}
use Rattle.std.specs.Io.KnownBytes.{Consumes, IsAtEnd, prepend_known}
use Rattle.std.specs.declared.io.Error.{Error}
use Rattle.stream.specs.Ready.{Ready, Brought, part, waiting}
use Rattle.stream.specs.declared.Input.{Input}

-- it went well before its error was mapped
pub came : {T E : Type 0} (D : Type 0) (r : Result T E) (x : T) → MatchResult r (λ y. ◌≡◌ {A = Result T D} (Ok x) (Ok y)) (λ _. ⊥) → r ≡ Ok x
came D (Ok y) x h = cc
came D (Err e) x h = absurd h

-- and what lies ready is as promised
pub readied : (r : Result Input Error) (buffer : List ℕ) (i : Input) → r ≡ Ok i → IfOk r (λ i. Ready i buffer) → Ready i buffer
readied r buffer i e h = IfOk-at_ok (λ i. Ready i buffer) e h

-- and it brought the reader's next bytes
pub brings : (old new : Option (List ℕ)) (from to : ℕ) (before after : List ℕ) (r : Result Input Error) (i : Input) → r ≡ Ok i
    → Brought old new from to before r after
    → Consumes (prepend_known (waiting from to before) old) new (part i.from i.to after) × (i.last ≡ true → 0 < length after → IsAtEnd new)
brings old new from to before after r i e h = rw e at h
