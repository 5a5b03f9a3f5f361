-- Each example is computed.
use mathlib.Core.Path.{refl}
use Rattle.notation.specs.Words.{first_word, after_word}
use Rattle.notation.specs.Fields.{octal_from, octal_up_to, number_of, amount_of}
use Rattle.notation.specs.Lines.{field_of, amount_at, reference_line, write_line, change_line, line_of}
use Rattle.notation.specs.Examples.{Examples}

pub examples : Examples
unfolding first_word after_word octal_from octal_up_to number_of amount_of field_of amount_at reference_line write_line change_line line_of
examples = refl
