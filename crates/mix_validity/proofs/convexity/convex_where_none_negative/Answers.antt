use Rattle.std.proofs.Common.{rules}
use Rattle.mix_bids.specs.Bids.{AreBids}
use Rattle.mix_bids.proofs.Lengths.{over_of}
use Rattle.mix_validity.proofs.ConvexLists.{convex_exactly}
use Rattle.mix_validity.proofs.convexity.convex_where_none_negative.Goals as goal

pub returns : goal.returns
returns c =
    let list = c.args.list.now in
    let proper : AreBids list.goods list.bids = search rules in
    convex_exactly list.goods list.bids (over_of list.goods list.bids proper)
