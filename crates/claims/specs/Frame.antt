-- What an event leaves alone: no event alters a word that document 01 does not name for it.
use Rattle.std.specs.Prelude.{ℕ, ◌+◌, ◌*◌, ◌≡◌, Bool, false, not, ◌||◌, ◌&&◌, List, length, ltb, eqb}
use Rattle.std.specs.Int.Bits.{bit_or}
use Rattle.rules.specs.Words.{word, PDR, SR0, SR1, SR2, SR3, bit}
use Rattle.rules.specs.Addresses.{register_at}
use Rattle.rules.specs.References.{page_for}
use Rattle.rules.specs.Step.{step}
use Rattle.rules.specs.declared.Reference.{Reference}
use Rattle.rules.specs.declared.Event.{Event}
use Rattle.rules.specs.declared.Event.TheVariants.{Refer, Read, Write, Instruction, Interrupt, Change, Init}

-- a write to a place names it, and a PAR its PDR too; SR1 and SR2 stay
abbrev pub written : ℕ → ℕ → Bool
written place i = (eqb i place && not (eqb place SR1) && not (eqb place SR2)) || (ltb place 48 && eqb i (PDR place))

-- the places that 01 names for an event
abbrev pub named : List ℕ → Event → ℕ → Bool
named l (Refer r) i = eqb i SR0 || eqb i (PDR (page_for l r))
named l (Read address) i = false
named l (Write address value) i = written (register_at address) i
named l (Instruction va) i = eqb i SR1 || eqb i SR2
named l (Interrupt vector) i = eqb i SR1 || eqb i SR2
named l (Change register amount) i = eqb i SR1
named l Init i = eqb i SR0 || eqb i SR1 || eqb i SR2 || eqb i SR3

abbrev pub OthersStay : Type 0
OthersStay = (l : List ℕ) (e : Event) (i : ℕ) → named l e i ≡ false → word (step l e).1 i ≡ word l i

abbrev pub LengthStays : Type 0
LengthStays = (l : List ℕ) (e : Event) → length (step l e).1 ≡ length l

-- of its page's PDR a reference alters A and W only, and only sets them
abbrev pub OnlyMarks : Type 0
OnlyMarks =
    (l : List ℕ) (r : Reference)
    → (a : Bool) × (w : Bool)
    × (word (step l (Refer r)).1 (PDR (page_for l r)) ≡ bit_or (word l (PDR (page_for l r))) (bit a * 0o200 + bit w * 0o100))

pub record Frame : Type 0 where
  pub others : OthersStay
  pub long : LengthStays
  pub marks : OnlyMarks
