-- What a feed wrote lies within its output.
use Rattle.std.proofs.Common.{arith, sym, length-take-le}
use Rattle.transcript.proofs.Promise.{within}
use Rattle.replays.proofs.feed.Goals as goal

pub slice_bounds-text-end : goal.slice_bounds-text-end
slice_bounds-text-end g c = let w = within _ _ _ _ _ _ c.feed-fed.ensures c.feed-fed.auto.out in omega (arith, w, c.feed-fed.auto.out)

pub slice_bounds-write_all-end : goal.slice_bounds-write_all-end
slice_bounds-write_all-end g c =
    let w = within _ _ _ _ _ _ c.feed-fed.ensures c.feed-fed.auto.out in sym (length-take-le _ _ (omega (arith, w, c.feed-fed.auto.out)))
