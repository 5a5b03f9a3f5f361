-- An answer as one number of 32 bits, and that no two answers have the same one.
use Rattle.std.specs.Prelude.{ℕ, ◌+◌, ◌*◌, ◌/◌, ◌%◌, ◌<◌, Bool, cond, eqb, ◌≡◌, List, None, Some}
use Rattle.std.specs.declared.option.Option.{Option}
use Rattle.rules.specs.Paper.{Paper, G, A, R, D, X}
use Rattle.rules.specs.Words.{bit}
use Rattle.rules.specs.Step.{step}
use Rattle.rules.specs.declared.Reference.{Reference}
use Rattle.rules.specs.declared.Event.{Event}
use Rattle.rules.specs.declared.Event.TheVariants.{Refer, Read, Write, Instruction, Interrupt, Change, Init}

-- request E1: what goes to bits 23:18, the place of the page that served, or 63 for none
abbrev pub six_bits : Option ℕ → ℕ
six_bits (Some place) = place
six_bits None = 63

-- a grant 0x10000000, with 0x01000000 for a trap, the page at bits 23:18, and the byte; an abort 0x20000000 and its three flags;
-- a word 0x30000000 and the word; done 0x40000000; a refusal 0x50000000 and its number
abbrev pub code_of : Paper → ℕ
code_of (G byte trap served) = 0x10000000 + bit trap * 0x01000000 + six_bits served * 0x00040000 + byte
code_of (A nonresident length readonly) = 0x20000000 + bit nonresident * 4 + bit length * 2 + bit readonly
code_of (R word) = 0x30000000 + word
code_of D = 0x40000000
code_of (X number) = 0x50000000 + number

-- an outcome with its answer coded
abbrev pub coded : Paper × List ℕ → ℕ × List ℕ
coded p = (code_of p.0, p.1)

-- none, or one of the 48
abbrev pub OfThe48 : Option ℕ → Type 0
OfThe48 (Some place) = place < 48
OfThe48 None = Unit {0}

-- an answer whose values have room in its code: 18 bits of byte, a page of the 48, 16 bits of word, a number of the table
abbrev pub Small : Paper → Type 0
Small (G byte trap served) = (byte < 0o1000000) × OfThe48 served
Small (A nonresident length readonly) = Unit {0}
Small (R word) = word < 0x10000
Small D = Unit {0}
Small (X number) = number < 14

-- the 16-bit address of a reference fits its word
abbrev pub Typed : Event → Type 0
Typed (Refer r) = r.va < 0x10000
Typed (Read address) = Unit {0}
Typed (Write address value) = Unit {0}
Typed (Instruction va) = Unit {0}
Typed (Interrupt vector) = Unit {0}
Typed (Change register amount) = Unit {0}
Typed Init = Unit {0}

-- every answer of the unit is small
abbrev pub AnswersSmall : Type 0
AnswersSmall = (l : List ℕ) (e : Event) → Typed e → Small (step l e).0

-- the answer that a code stands for
abbrev pub flag : ℕ → ℕ → Bool
flag value code = eqb (code / value % 2) 1

abbrev pub served_of : ℕ → Option ℕ
served_of bits = cond (eqb bits 63) None (Some bits)

unfoldable pub answer_of : ℕ → Paper
answer_of code =
    let kind = code / 0x10000000 in
    cond (eqb kind 1) (G (code % 0x00040000) (flag 0x01000000 code) (served_of (code / 0x00040000 % 64)))
    (cond (eqb kind 2) (A (flag 4 code) (flag 2 code) (flag 1 code))
    (cond (eqb kind 3) (R (code % 0x10000000))
    (cond (eqb kind 4) D (X (code % 0x10000000)))))

-- a small answer is read back from its code, so that no two have the same one
abbrev pub ReadBack : Type 0
ReadBack = (p : Paper) → Small p → answer_of (code_of p) ≡ p

abbrev pub OneToOne : Type 0
OneToOne = (p q : Paper) → Small p → Small q → code_of p ≡ code_of q → p ≡ q
