use Rattle.std.proofs.Common.{◌≡◌, ◌+◌, ◌<◌, ◌≤◌, ℕ, cond, get_or, length}
use Rattle.mix_num.specs.Vectors.{members}
use Rattle.mix_bids.specs.Levels.{other}
use Rattle.mix_bids.proofs.counts.with_fresh.Given as goal

abbrev pub invariant-loop-place : goal.invariant-loop-place
invariant-loop-place l = record {
  size : length l.leads ≡ 7;
  counted : (k : ℕ) → k < l.place → get_or l.leads k 0 ≡ get_or l.fn.before k 0 + cond (members l.fresh (other l.first l.second k)) 1 0;
  left : (k : ℕ) → l.place ≤ k → get_or l.leads k 0 ≡ get_or l.fn.before k 0;
}
