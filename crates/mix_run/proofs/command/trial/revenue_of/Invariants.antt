use Rattle.std.proofs.Common.{◌≡◌, ◌*◌, pos, ◌≤ℤ◌, map}
use Rattle.mix_num.proofs.Additions.{total_of_first}
use Rattle.mix_run.proofs.command.trial.revenue_of.Given as goal

abbrev pub invariant-loop-place : goal.invariant-loop-place
invariant-loop-place l = record {
  sum : l.sum ≡ total_of_first l.place (map (λ share. share.payment) l.shares);
  low : pos 0 ≤ℤ l.sum;
  high : l.sum ≤ℤ pos (10000000000000 * l.place);
}
