-- What lies ready in a buffer of input: the bytes from a place up to an end within it. There are none only where no more come.
use Rattle.std.specs.Prelude.{ℕ, ◌-◌, ◌<◌, ◌≤◌, ◌≡◌, true, false, cond, List, [], length, take, drop, leb, Result, MatchResult}
use Rattle.std.specs.declared.option.Option.{Option}
use Rattle.std.specs.Io.KnownBytes.{Consumes, IsAtEnd, Keeps, prepend_known}
use Rattle.stream.specs.declared.Input.{Input}

pub record Ready (i : Input) (buffer : List ℕ) : Type 0 where
  pub order : i.from ≤ i.to
  pub within : i.to ≤ length buffer
  pub some : i.last ≡ false → i.from < i.to
  pub none : i.last ≡ true → i.from ≡ i.to

-- bytes that still lie ready stay as they are
abbrev pub Stays : ℕ → ℕ → List ℕ → Input → List ℕ → Type 0
Stays from to before i after =
    from < to → to ≤ length before → (i ≡ record { from = from; to = to; last = false }) × (after ≡ before)

-- no bytes still lie ready
abbrev pub Spent : ℕ → ℕ → List ℕ → Type 0
Spent from to before = from < to → to ≤ length before → ⊥

-- the bytes from a place up to an end
abbrev pub part : ℕ → ℕ → List ℕ → List ℕ
part from to buffer = take (to - from) (drop from buffer)

-- the bytes that still lie ready
abbrev pub waiting : ℕ → ℕ → List ℕ → List ℕ
waiting from to before = cond (leb to (length before)) (part from to before) []

-- where the reader's bytes are known: those that lie ready are the next of them, after those that still did, and they are said to be
-- no more only at the reader's end. An error takes none
abbrev pub Brought : {E : Type 0} → Option (List ℕ) → Option (List ℕ) → ℕ → ℕ → List ℕ → Result Input E → List ℕ → Type 0
Brought old new from to before r after =
    MatchResult r
    (λ i. Consumes (prepend_known (waiting from to before) old) new (part i.from i.to after)
    × (i.last ≡ true → 0 < length after → IsAtEnd new))
    (λ _. Keeps old new)
