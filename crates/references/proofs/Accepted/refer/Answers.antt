-- `refer` meets its contract: the ruling by value, stored back, is the ruling over the store.
use Rattle.ruling.proofs.Bits.{byte_bit}
use Rattle.references.proofs.Pages.{examined_as, by_ruling}
use Rattle.references.proofs.Accepted.refer.Goals as goal

pub returns : goal.returns
returns c =
    rw (
      examined_as c.args.s.now c.args.self c.in-Some.mode c.in-Some.is c.if-s-eq0.false,
      ← c.enables_d.ensures,
      ← c.details-2.ensures,
      ← c.first_page.ensures.0,
      ← byte_bit,
      ← c.from-2.ensures,
      ← c.page_of.ensures.0,
      ← c.from-3.ensures,
    )
    (by_ruling _ _ _ _ _ c.rule-ruled.ensures)
