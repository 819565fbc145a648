use Rattle.std.proofs.Common.{◌≡◌, ◌+ℤ◌, ◌*ℤ◌, take}
use Rattle.mix_bids.specs.Offers.{Offers}
use Rattle.mix_canon.specs.Canons.{weight_of}
use Rattle.mix_canon.specs.Maps.{weight_at}
use Rattle.mix_canon.proofs.weights.gather.Given as goal

abbrev pub invariant-loop-bid : goal.invariant-loop-bid
invariant-loop-bid l = (v : Offers) → weight_at l.weights v ≡ weight_at l.initial.weights v +ℤ (l.factor *ℤ weight_of v (take l.bid-index l.bid-items))
