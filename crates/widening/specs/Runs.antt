-- A sequence of events: the store after it, its answers, and whether every step is one that demand 3 permits.
use Rattle.std.specs.Prelude.{ℕ, Bool, true, false, not, ◌&&◌, ◌||◌, List, [], ◌∷◌, ltb, eqb}
use Rattle.rules.specs.Paper.{Paper}
use Rattle.rules.specs.Words.{word, SR0, SR3, relocates}
use Rattle.rules.specs.Addresses.{register_at}
use Rattle.rules.specs.Refusals.{refusal_of}
use Rattle.rules.specs.Step.{step}
use Rattle.rules.specs.declared.Event.{Event}
use Rattle.rules.specs.declared.Event.TheVariants.{Refer, Read, Write, Instruction, Interrupt, Change, Init}
use Rattle.widening.specs.Widens.{widens}

abbrev pub after : List ℕ → List Event → List ℕ
after l [] = l
after l (e ∷ es) = after (step l e).1 es

abbrev pub answers : List ℕ → List Event → List Paper
answers l [] = []
answers l (e ∷ es) = (step l e).0 ∷ answers (step l e).1 es

abbrev pub is_init : Event → Bool
is_init (Refer r) = false
is_init (Read address) = false
is_init (Write address value) = false
is_init (Instruction va) = false
is_init (Interrupt vector) = false
is_init (Change register amount) = false
is_init Init = true

-- the place that an event writes, 100 for none
abbrev pub place_written : Event → ℕ
place_written (Refer r) = 100
place_written (Read address) = 100
place_written (Write address value) = register_at address
place_written (Instruction va) = 100
place_written (Interrupt vector) = 100
place_written (Change register amount) = 100
place_written Init = 100

-- a write leaves relocation on
abbrev pub leaves_on : List ℕ → Event → Bool
leaves_on l e = not (ltb (place_written e) 100) || relocates (word (step l e).1 SR0)

-- demand 3: no INIT and no write to SR3, each accepted write leaves relocation on and, for a page, widens; a refused event is permitted
unfoldable pub permitted : List ℕ → Event → Bool
permitted l e =
    not (eqb (refusal_of l e) 0)
    || (not (is_init e) && not (eqb (place_written e) SR3) && leaves_on l e && widens l e)

-- every step is permitted
abbrev pub calm : List ℕ → List Event → Bool
calm l [] = true
calm l (e ∷ es) = permitted l e && calm (step l e).1 es
