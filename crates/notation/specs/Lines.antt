-- What a line says (docs/NOTATION.md, "Lines" and "A bad line").
use Rattle.std.specs.Prelude.{ℕ, cond, List, [], ◌∷◌, ℤ, Result, Ok, Err}
use Rattle.std.specs.Option.{ok_or}
use Rattle.rules.specs.declared.Event.TheVariants.{Refer, Read, Write, Instruction, Interrupt, Change, Init as AnInit}
use Rattle.lines.specs.Chars.{chars}
use Rattle.lines.specs.Lines.{Text}
use Rattle.notation.specs.Words.{first_word, after_word, empty}
use Rattle.notation.specs.Fields.{looked_up, number_of, amount_of}
use Rattle.notation.specs.declared.Field.{Field}
use Rattle.notation.specs.declared.Field.TheVariants.{Mode, Space, Access, Phase, Va, Value, Vector, Address, Register, Byte as AByte}
use Rattle.notation.specs.declared.Expected.{Expected}
use Rattle.notation.specs.declared.Expected.TheVariants.{Name as AName, Field as AField, Amount as AnAmount, End}
use Rattle.notation.specs.declared.Line.{Line}
use Rattle.notation.specs.declared.Line.TheVariants.{Blank, Event as AnEvent, Byte}
use Rattle.notation.specs.declared.Name.{Name}
use Rattle.notation.specs.declared.Name.TheVariants.{Reference as NReference, Read as NRead, Write as NWrite, Instruction as NInstruction, Interrupt as NInterrupt, Change as NChange, Init as NInit, Byte as NByte}

-- what a line says, or what was expected of it
abbrev pub Said : Type 0
Said = Result Line Expected

abbrev pub names : List (Text × Name)
names =
    (chars "reference", NReference) ∷
    (chars "read", NRead) ∷
    (chars "write", NWrite) ∷
    (chars "instruction", NInstruction) ∷
    (chars "interrupt", NInterrupt) ∷ (chars "change", NChange) ∷ (chars "init", NInit) ∷ (chars "byte", NByte) ∷ []

-- what follows a word that stands for something, or the word that was expected
abbrev pub given : {A : Type 0} → Result A Expected → (A → Said) → Said
given (Ok a) next = next a
given (Err expected) next = Err expected

-- a field is the first word of a text
unfoldable pub field_of : Field → Text → Result ℕ Expected
field_of f t = ok_or (number_of f (first_word t)) (AField f)

unfoldable pub amount_at : Text → Result ℤ Expected
amount_at t = ok_or (amount_of (first_word t)) AnAmount

-- its number and the text after it go on
abbrev pub field : Field → Text → (ℕ → Text → Said) → Said
field f t next = given (field_of f t) (λ n. next n (after_word t))

abbrev pub amount : Text → (ℤ → Text → Said) → Said
amount t next = given (amount_at t) (λ z. next z (after_word t))

-- no word follows the last field
abbrev pub ending : Line → Text → Said
ending l t = cond (empty (first_word t)) (Ok l) (Err End)

unfoldable pub reference_line : Text → Said
reference_line t =
    field Mode t
    (λ mode t₁.
    field Space t₁
    (λ space t₂.
    field Access t₂
    (λ access t₃.
    field Phase t₃
    (λ phase t₄.
    field Va t₄
    (λ va t₅. ending (AnEvent (Refer (record { mode = mode; space = space; access = access; phase = phase; va = va }))) t₅)))))

-- a name with one field
abbrev pub single : Field → (ℕ → Line) → Text → Said
single f says t = field f t (λ n t₁. ending (says n) t₁)

unfoldable pub write_line : Text → Said
write_line t = field Address t (λ address t₁. field Value t₁ (λ value t₂. ending (AnEvent (Write address value)) t₂))

unfoldable pub change_line : Text → Said
change_line t = field Register t (λ register t₁. amount t₁ (λ z t₂. ending (AnEvent (Change register z)) t₂))

-- by the name and the text after it
abbrev pub named_line : Name → Text → Said
named_line NReference t = reference_line t
named_line NRead t = single Address (λ address. AnEvent (Read address)) t
named_line NWrite t = write_line t
named_line NInstruction t = single Va (λ va. AnEvent (Instruction va)) t
named_line NInterrupt t = single Vector (λ vector. AnEvent (Interrupt vector)) t
named_line NChange t = change_line t
named_line NInit t = ending (AnEvent AnInit) t
named_line NByte t = single AByte (λ b. Byte b) t

unfoldable pub line_of : Text → Said
line_of t =
    cond (empty (first_word t)) (Ok Blank)
    (given (ok_or (looked_up (first_word t) names) AName) (λ name. named_line name (after_word t)))
