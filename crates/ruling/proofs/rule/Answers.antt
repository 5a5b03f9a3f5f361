-- `rule` meets its contract: the flags read from the table are rule 4's, and their test picks the definition's case.
use Prim.Native.Nat.{◌%◌}
use Rattle.ruling.specs.Rulings.{ruling_of}
use Rattle.ruling.proofs.Bits.{byte_bit}
use Rattle.ruling.proofs.Keys.{absent, only-read, trapping}
use Rattle.ruling.proofs.rule.Goals as goal

pub returns-then-any : goal.returns-then-any
unfolding ruling_of
returns-then-any c =
    let pdr = c.args.page.pdr in
    let k = c.right_of-right.ensures in
    let t = rw (c.any.ensures, k, c.length_error.ensures, c.block_of.ensures.0, absent (pdr % 8), only-read pdr) at c.if-any.true in
    rw (c.from.ensures, c.sr0_after.ensures, c.bits.ensures, k, c.length_error.ensures, c.block_of.ensures.0, absent (pdr % 8), only-read pdr, t)

pub returns : goal.returns
unfolding ruling_of
returns c =
    let pdr = c.args.page.pdr in
    let k = c.right_of-right.ensures in
    let t = rw (c.any.ensures, k, c.length_error.ensures, c.block_of.ensures.0, absent (pdr % 8), only-read pdr) at c.if-any.false in
    rw (
      c.sr0_after-2.ensures,
      c.from-2.ensures,
      byte_bit,
      c.marks.ensures,
      c.byte_of-byte.ensures.0,
      c.condition-a.ensures,
      k,
      trapping pdr c.args.write,
      t,
    )
