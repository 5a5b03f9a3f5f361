-- A field's number is never above what the field holds.
use mathlib.Core.Path.{◌∙◌}
use Rattle.notation.specs.Lines.{field_of}
use Rattle.notation.proofs.Bounds.{field_within}
use Rattle.notation.proofs.words.Words.field.Goals as goal

pub returns-clause-within : goal.returns-clause-within
unfolding field_of
returns-clause-within c =
    field_within c.args.f c.args.self.now.left.now c.ok_or.result (c.ok_or.ensures.value ∙ rw (c.number.ensures, c.word.ensures.0))
