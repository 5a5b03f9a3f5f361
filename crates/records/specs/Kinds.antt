-- The kinds of record, and the length of each one's body (01, "Recordings").
use Rattle.std.specs.Prelude.{ℕ, ◌-◌, Bool, ◌&&◌, List, [], ◌∷◌, length, get_or, ltb, leb, eqb, cond, Result, Ok, Err}
use Rattle.rules.specs.declared.Refusal.{Refusal}
use Rattle.rules.specs.declared.Refusal.TheVariants.{Kind as Unknown}
use Rattle.records.specs.declared.Kind.{Kind}
use Rattle.records.specs.declared.Kind.TheVariants.{Reference, Read, Write, Instruction, Interrupt, Change, Init}

-- from kind 1 on: reference, register read, register write, instruction start, interrupt start, change noted, INIT
abbrev pub bodies : List ℕ
bodies = 6 ∷ 3 ∷ 5 ∷ 2 ∷ 2 ∷ 2 ∷ 0 ∷ []

abbrev pub known : ℕ → Bool
known kind = ltb 0 kind && leb kind (length bodies)

abbrev pub body_of : ℕ → ℕ
body_of kind = get_or bodies (kind - 1) 0

abbrev pub kind_number : Kind → ℕ
kind_number Reference = 1
kind_number Read = 2
kind_number Write = 3
kind_number Instruction = 4
kind_number Interrupt = 5
kind_number Change = 6
kind_number Init = 7

-- the kind of a number; refused by 11 where there is none
unfoldable pub kind_of : ℕ → Result Kind Refusal
kind_of n =
    cond (eqb n 1) (Ok Reference)
    (cond (eqb n 2) (Ok Read)
    (cond (eqb n 3) (Ok Write)
    (cond (eqb n 4) (Ok Instruction)
    (cond (eqb n 5) (Ok Interrupt)
    (cond (eqb n 6) (Ok Change)
    (cond (eqb n 7) (Ok Init)
    (Err Unknown)))))))
