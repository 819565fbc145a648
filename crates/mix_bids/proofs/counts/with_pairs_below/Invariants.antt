use Rattle.std.proofs.Common.{◌≡◌, ◌+◌, ◌<◌, ◌≤◌, ℕ, List, [], ◌∷◌, ◌++◌, length, min}
use Rattle.mix_bids.specs.Cells.{sum_below}
use Rattle.mix_bids.specs.Counted.{growth, leads_at, AreLeads, IsKnown}
use Rattle.mix_bids.specs.declared.bid.Bid.{Bid}
use Rattle.mix_bids.proofs.counts.with_pairs_below.Given as goal

abbrev pub invariant-loop-first : goal.invariant-loop-first
invariant-loop-first l = record {
  range : l.tally.cells ≤ 4194305;
  size : length l.tally.counts.levels ≡ 36;
  sum : (bs : List Bid) (b : Bid) → IsKnown l.known.goods bs b l.known.offers l.known.kept.now l.known.agreements.now → l.tally.cells ≡ min (l.fn.before.cells + sum_below l.first (λ i. growth l.known.goods bs b i l.second)) 4194305;
  counts : (bs : List Bid) (b : Bid) → IsKnown l.known.goods bs b l.known.offers l.known.kept.now l.known.agreements.now → (i : ℕ) → i < l.first → AreLeads l.known.goods (bs ++ b ∷ []) b i l.second (leads_at l.tally.counts i l.second);
  others : (i j : ℕ) → i < j → j < l.second → leads_at l.tally.counts i j ≡ leads_at l.fn.before.counts i j;
}
