-- What was expected at a bad line, as a message says it (docs/NOTATION.md, "A bad line").
use Rattle.std.specs.Prelude.{ℕ, List}
use Rattle.lines.specs.Chars.{chars}
use Rattle.notation.specs.declared.Field.{Field}
use Rattle.notation.specs.declared.Field.TheVariants.{Mode, Space, Access, Phase, Va, Value, Vector, Address, Register, Byte}
use Rattle.notation.specs.declared.Expected.{Expected}
use Rattle.notation.specs.declared.Expected.TheVariants.{Name, Field as AField, Amount, End}

abbrev pub field_message : Field → List ℕ
field_message Mode = chars "a mode: kernel, supervisor, illegal, user, or an octal number to 377"
field_message Space = chars "a space: instruction, data, or an octal number to 377"
field_message Access = chars "an access: read, write, or an octal number to 377"
field_message Phase = chars "a phase: instruction, trap, or an octal number to 377"
field_message Va = chars "a VA: an octal number to 177777"
field_message Value = chars "a value: an octal number to 177777"
field_message Vector = chars "a vector: an octal number to 177777"
field_message Address = chars "an address: an octal number to 77777777"
field_message Register = chars "a register: an octal number to 377"
field_message Byte = chars "a byte: an octal number to 377"

abbrev pub message : Expected → List ℕ
message Name = chars "one of reference, read, write, instruction, interrupt, change, init, byte"
message (AField field) = field_message field
message Amount = chars "an amount: an octal number from -200 to 177"
message End = chars "the end of the line"
