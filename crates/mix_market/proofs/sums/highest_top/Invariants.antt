use Rattle.std.proofs.Common.{◌≡◌, drop}
use Rattle.std.specs.Int.{int_max}
use Rattle.mix_num.specs.Ranges.{Lies}
use Rattle.mix_market.specs.Extremes.{greatest_of}
use Rattle.mix_market.proofs.sums.highest_top.Given as goal

abbrev pub invariant-loop-buyer : goal.invariant-loop-buyer
invariant-loop-buyer g l = record {
  so_far : int_max l.highest (greatest_of (λ buyer. g.D.Convex.top buyer l.good) (drop l.buyer-index l.buyers)) ≡ greatest_of (λ buyer. g.D.Convex.top buyer l.good) l.buyers;
  range : Lies 1000000 l.highest;
}
