use Rattle.std.proofs.Common.{◌≡◌, ◌+ℤ◌, drop, ℕ, ◌*◌, ◌<◌, pos, ◌≤ℤ◌, get_or}
use Rattle.mix_market.specs.Memberships.{sum_of_totals}
use Rattle.mix_market.proofs.sums.total.Given as goal

abbrev pub invariant-loop-buyer : goal.invariant-loop-buyer
invariant-loop-buyer g l = record {
  value : l.sum +ℤ sum_of_totals g.D.Convex.total (drop l.buyer-index l.buyers) ≡ sum_of_totals g.D.Convex.total l.buyers;
  low : pos 0 ≤ℤ l.sum;
  high : l.sum ≤ℤ pos (8000000 * l.buyer-index);
  totals : (k : ℕ) → k < l.buyer-index → (d : g.row.D.Denot) → (pos 0 ≤ℤ g.D.Convex.total (get_or l.buyers k d)) × (g.D.Convex.total (get_or l.buyers k d) ≤ℤ pos 8000000);
}
