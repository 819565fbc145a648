use Rattle.std.proofs.Common.{◌≡◌, ◌<◌, ℕ, suc, pos, get_or, length, All}
use Rattle.mix_num.specs.Ranges.{Lies}
use Rattle.mix_market.specs.Extremes.{greatest_of}
use Rattle.mix_market.proofs.market.Market.new.Given as goal

abbrev pub invariant-loop-place : goal.invariant-loop-place
invariant-loop-place g l = record {
  count : length l.tops.items ≡ l.place;
  range : All (Lies 1000000) l.tops.items;
  greatest : (place : ℕ) → place < length l.tops.items → get_or l.tops.items place (pos 0) ≡ greatest_of (λ member. g.D.Convex.top member (suc place)) l.members.items;
}
