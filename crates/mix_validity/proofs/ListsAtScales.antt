-- Convex lists at all scales: what fractions of prices rest on.
use Rattle.std.proofs.Common.{ℕ, List, []}
use Rattle.mix_bids.specs.Bids.{total_weight}
use Rattle.mix_bids.specs.Convexity.{IsConvexList, utility_at}
use Rattle.mix_bids.specs.declared.bid.Bid.{Bid}
use Rattle.mix_bids.proofs.BestMultiples.{falls-multiple, rises-multiple}
use Rattle.mix_bids.proofs.Lengths.{AreOver}
use Rattle.mix_law.specs.Scales.{KeepsScales}
use Rattle.mix_validity.proofs.ConvexLists.{convex_exactly}
use Rattle.mix_validity.proofs.FacetsAtScales.{utility_keeps}

-- a convex list's utilities at all scales go together
pub list_keeps_scales : (n : ℕ) (bs : List Bid) → AreOver n bs → IsConvexList bs → KeepsScales n (utility_at bs)
list_keeps_scales n bs over convex = record {
  total = total_weight bs;
  keeps = λ d some. utility_keeps n d bs over some ((convex_exactly n bs over).0 convex);
  falls = λ d some x s. falls-multiple n d bs x s over some;
  rises = λ d some x s. rises-multiple n d bs x s over some;
}
