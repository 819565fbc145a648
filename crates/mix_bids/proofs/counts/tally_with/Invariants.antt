use Rattle.std.proofs.Common.{◌≡◌, ◌+◌, ◌<◌, ◌≤◌, ℕ, [], ◌∷◌, ◌++◌, length, min}
use Rattle.mix_bids.specs.Cells.{cells, sum_below}
use Rattle.mix_bids.specs.Counted.{growth, leads_at, triangle, AreLeads}
use Rattle.mix_bids.proofs.counts.tally_with.Given as goal

abbrev pub invariant-loop-second : goal.invariant-loop-second
invariant-loop-second l = record {
  range : l.tally.cells ≤ 4194305;
  size : length l.tally.counts.levels ≡ 36;
  start : l.start ≡ triangle l.second;
  sum : l.tally.cells ≡ min (cells (record { goods = l.goods; bids = l.bids }) + sum_below l.second (λ j. sum_below j (λ i. growth l.goods l.bids l.bid i j))) 4194305;
  counts : (i j : ℕ) → i < j → j < l.second → AreLeads l.goods (l.bids ++ l.bid ∷ []) l.bid i j (leads_at l.tally.counts i j);
}
