-- Over, or what the records of the piece tell and where they leave it.
use Rattle.account.proofs.Pieces.{when_over, when_going}
use Rattle.account.proofs.feed.Goals as goal

pub returns-then-begun : goal.returns-then-begun
returns-then-begun c = when_over _ _ _ _ c.if-begun.true _ c.land-reached.ensures

pub returns : goal.returns
returns c =
    when_going _ _ _ _ c.if-begun.false _ _ c.survey_piece-course.ensures _ c.how.ensures _
    c.land-reached-2.ensures
