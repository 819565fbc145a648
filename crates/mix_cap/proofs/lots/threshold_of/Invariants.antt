use Rattle.std.proofs.Common.{◌≡◌, ℕ, suc, ◌-◌, ◌≤◌, pos, ◌≤ℤ◌, ◌<ℤ◌}
use Rattle.mix_cap.specs.Lots.{above, sum_over}
use Rattle.mix_cap.proofs.lots.threshold_of.Given as goal

abbrev pub invariant-loop-low : goal.invariant-loop-low
invariant-loop-low l = record {
  order : l.low ≤ l.high;
  small : l.high ≤ 5000000;
  passed : sum_over (above (pos l.high)) l.lots ≤ℤ l.cap;
  least : (k : ℕ) → l.low ≡ suc k → l.cap <ℤ sum_over (above (pos k)) l.lots;
}

abbrev pub decreases-loop-low : goal.decreases-loop-low
decreases-loop-low l = l.high - l.low
