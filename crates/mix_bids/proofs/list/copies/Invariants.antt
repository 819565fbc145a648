use Rattle.std.proofs.Common.{◌≡◌, take}
use Rattle.mix_bids.proofs.list.copies.Given as goal

abbrev pub invariant-loop-bid : goal.invariant-loop-bid
invariant-loop-bid l = l.copies.items ≡ take l.bid-index l.bids
