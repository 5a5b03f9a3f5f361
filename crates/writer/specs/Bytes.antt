-- An event's record (01, "Recordings"): one byte of kind and the body, numbers low byte first.
use Rattle.std.specs.Prelude.{ℕ, zero, suc, ◌/◌, ◌%◌, List, [], ◌∷◌, ◌++◌}
use Rattle.rules.specs.Others.{complement}
use Rattle.rules.specs.declared.Event.{Event}
use Rattle.rules.specs.declared.Event.TheVariants.{Refer, Read, Write, Instruction, Interrupt, Change, Init}

-- a number in n bytes, low byte first
abbrev pub bytes_of : ℕ → ℕ → List ℕ
bytes_of zero x = []
bytes_of (suc n) x = x % 256 ∷ bytes_of n (x / 256)

unfoldable pub record_of : Event → List ℕ
record_of (Refer r) =
    1 ∷ bytes_of 1 r.mode ++ bytes_of 1 r.space ++ bytes_of 1 r.access ++ bytes_of 1 r.phase ++ bytes_of 2 r.va
record_of (Read address) = 2 ∷ bytes_of 3 address
record_of (Write address value) = 3 ∷ bytes_of 3 address ++ bytes_of 2 value
record_of (Instruction va) = 4 ∷ bytes_of 2 va
record_of (Interrupt vector) = 5 ∷ bytes_of 2 vector
record_of (Change register amount) = 6 ∷ bytes_of 1 register ++ complement 255 amount ∷ []
record_of Init = 7 ∷ []
