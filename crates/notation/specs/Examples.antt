-- Lines as they are written, and what each says.
use Rattle.std.specs.Prelude.{◌≡◌, List, [], ◌∷◌, map, pos, negsuc, Ok, Err}
use Rattle.rules.specs.declared.Event.{Event}
use Rattle.rules.specs.declared.Event.TheVariants.{Refer, Read, Write, Instruction, Interrupt, Change, Init}
use Rattle.lines.specs.Chars.{chars}
use Rattle.lines.specs.Lines.{Text}
use Rattle.notation.specs.Lines.{Said, line_of}
use Rattle.notation.specs.declared.Field.TheVariants.{Mode, Phase, Value, Address, Register, Byte as AByte}
use Rattle.notation.specs.declared.Expected.TheVariants.{Name, Field as AField, Amount as AnAmount, End}
use Rattle.notation.specs.declared.Line.TheVariants.{Blank, Event as AnEvent, Byte}

abbrev event : Event → Said
event e = Ok (AnEvent e)

abbrev pub examples : List (Text × Said)
examples =
    (chars "", Ok Blank) ∷
    (chars " \t\r # a comment alone", Ok Blank) ∷ (
      chars "reference user data write trap 167456",
      event (Refer (record { mode = 3; space = 1; access = 1; phase = 1; va = 0o167456 })),
    ) ∷
    (chars "reference 4 0 0 0 0", event (Refer (record { mode = 4; space = 0; access = 0; phase = 0; va = 0 }))) ∷
    (chars "\tread  00777572#SR0", event (Read 0o777572)) ∷
    (chars "read 77777777", event (Read 0o77777777)) ∷
    (chars "read 100000000", Err (AField Address)) ∷
    (chars "write 772356 003456", event (Write 0o772356 0o3456)) ∷
    (chars "write 772356 200000", Err (AField Value)) ∷
    (chars "instruction 001000", event (Instruction 0o1000)) ∷
    (chars "interrupt 4 \r", event (Interrupt 4)) ∷
    (chars "change 6 -2", event (Change 6 (negsuc 1))) ∷
    (chars "change 1 +177", event (Change 1 (pos 127))) ∷
    (chars "change 1 -200", event (Change 1 (negsuc 127))) ∷
    (chars "change 1 200", Err AnAmount) ∷
    (chars "change 1 -", Err AnAmount) ∷
    (chars "change 400 -", Err (AField Register)) ∷
    (chars "init", event Init) ∷
    (chars "init 0", Err End) ∷
    (chars "Init", Err Name) ∷
    (chars "byte 10", Ok (Byte 8)) ∷
    (chars "byte 8", Err (AField AByte)) ∷
    (chars "reference data", Err (AField Mode)) ∷
    (chars "reference kernel data read # instruction 0", Err (AField Phase)) ∷
    []

abbrev pub Examples : Type 0
Examples = map (λ (e : Text × Said). line_of e.0) examples ≡ map (λ (e : Text × Said). e.1) examples
