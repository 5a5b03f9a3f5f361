-- 01, "When the beam won't balance": which numbers an event can be refused by, each with its condition, and the lowest that holds.
use Rattle.std.specs.Prelude.{ℕ, ◌%◌, Bool, false, cond, not, ◌&&◌, ◌||◌, List, [], ◌∷◌, ◌++◌, length, ltb, eqb, ℤ}
use Rattle.rules.specs.Words.{word, SR0, SR1, frozen}
use Rattle.rules.specs.Addresses.{is_register}
use Rattle.rules.specs.Others.{good_amount, both_used}
use Rattle.rules.specs.declared.Reference.{Reference}
use Rattle.rules.specs.declared.Event.{Event}
use Rattle.rules.specs.declared.Event.TheVariants.{Refer, Read, Write, Instruction, Interrupt, Change, Init}

abbrev pub Conditions : Type 0
Conditions = List (ℕ × Bool)

abbrev pub of_store : List ℕ → Conditions
of_store l = (1, not (eqb (length l) 100)) ∷ []

abbrev pub of_reference : Reference → Conditions
of_reference r = (2, ltb 3 r.mode) ∷ (3, ltb 1 r.space) ∷ (4, ltb 1 r.access) ∷ (5, ltb 1 r.phase) ∷ []

abbrev pub odd : ℕ → Bool
odd address = eqb (address % 2) 1

abbrev pub of_address : ℕ → Conditions
of_address address =
    (6, ltb 0o777777 address) ∷ (7, odd address) ∷ (8, not (odd address) && not (is_register address)) ∷ []

abbrev pub of_change : List ℕ → ℕ → ℤ → Conditions
of_change l register amount =
    (9, ltb 7 register || not (good_amount amount)) ∷ (10, not (frozen (word l SR0)) && both_used (word l SR1)) ∷ []

-- an event's numbers, in their order
abbrev pub conditions : List ℕ → Event → Conditions
conditions l (Refer r) = of_store l ++ of_reference r
conditions l (Read address) = of_store l ++ of_address address
conditions l (Write address value) = of_store l ++ of_address address
conditions l (Instruction va) = of_store l
conditions l (Interrupt vector) = of_store l
conditions l (Change register amount) = of_store l ++ of_change l register amount
conditions l Init = of_store l

-- the condition of one number
abbrev pub holds : ℕ → Conditions → Bool
holds n [] = false
holds n (c ∷ cs) = (eqb n c.0 && c.1) || holds n cs

-- the first number that holds, 0 for none
abbrev pub lowest : Conditions → ℕ
lowest [] = 0
lowest (c ∷ cs) = cond c.1 c.0 (lowest cs)

unfoldable pub refusal_of : List ℕ → Event → ℕ
refusal_of l e = lowest (conditions l e)
