use Rattle.std.proofs.Common.{pos, ◌-ℤ◌, ◌≤ℤ◌}
use Rattle.mix_num.specs.Vectors.{members, with_null}
use Rattle.mix_law.proofs.Lattice.{over}
use Rattle.mix_market.specs.Markets.{goods_of, lyapunov_of}
use Rattle.mix_fall.specs.LongFalls.{IsLongFall}
use Rattle.mix_fall.proofs.settling.fall_length.Given as goal

abbrev pub invariant-loop-length : goal.invariant-loop-length
invariant-loop-length g l = record {
  long : IsLongFall (goods_of l.market) (lyapunov_of l.market) (with_null l.floor.items) (with_null l.prices.items) (members l.set) l.length;
  most : l.length ≤ℤ pos 2000000;
}

abbrev pub decreases-loop-length : goal.decreases-loop-length
decreases-loop-length g l = over (pos 2000000 -ℤ l.length)
