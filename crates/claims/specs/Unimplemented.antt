-- Bits that document 01 does not implement play no part in any answer.
use Rattle.std.specs.Prelude.{ℕ, ◌≡◌, List, length}
use Rattle.rules.specs.Registers.{read_at}
use Rattle.rules.specs.Step.{step}
use Rattle.rules.specs.declared.Event.{Event}

-- two stores that agree on the implemented bits of every word
pub record Alike (l m : List ℕ) : Type 0 where
  pub long : length l ≡ length m
  pub same : (place : ℕ) → read_at l place ≡ read_at m place

-- they give the same answer, and again agree
abbrev pub Unimplemented : Type 0
Unimplemented =
    (l m : List ℕ) (e : Event) → Alike l m → ((step l e).0 ≡ (step m e).0) × Alike (step l e).1 (step m e).1
