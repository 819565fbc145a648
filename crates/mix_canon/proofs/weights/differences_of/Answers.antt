use Rattle.std.proofs.Common.{List, subst, sym}
use Rattle.mix_num.specs.Ranges.{Lies}
use Rattle.mix_bids.specs.declared.bid.Bid.{Bid}
use Rattle.mix_canon.specs.Canons.{weight_of}
use Rattle.mix_canon.proofs.PartWeights.{weight_lies}
use Rattle.mix_canon.proofs.weights.differences_of.Goals as goal

pub gather-requires-clause-so_far : goal.gather-requires-clause-so_far
gather-requires-clause-so_far c = λ v.
    let bids = c.bids-bids.ensures in
    subst (Lies 4000000) (sym (c.in_ok-weights.ensures v)) (subst (λ (bs : List Bid). Lies 4000000 (weight_of v bs)) bids.value (weight_lies c.args.first.now.goods v c.bids-bids.result.now bids.proper bids.few))
