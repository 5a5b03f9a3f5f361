-- `store` meets its contract: what stands before and after the bytes stays.
use Rattle.std.proofs.Common.{◌+◌, ◌-◌, length, refl, arith}
use Rattle.std.proofs.lemmas.Slice.{put_mid-paste}
use Rattle.std.proofs.lemmas.List.{take_all}
use Rattle.writer.proofs.putting.store.Goals as goal

pub returns : goal.returns
returns c =
    let xs = c.args.bytes.now in
    let count = c.args.at + length xs - c.args.at in
    let pasted = put_mid-paste c.args.at count c.args.b.now c.copy_from_slice.new.self xs (length xs) c.copy_from_slice.ensures.after (omega arith) refl in
    rw (take_all (length xs) xs (omega arith)) at pasted
