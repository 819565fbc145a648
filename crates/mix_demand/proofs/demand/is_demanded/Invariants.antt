use Rattle.std.proofs.Common.{ℕ, ◌<◌, ◌≤ℤ◌, length}
use Rattle.mix_num.specs.Tables.{share_in, number_of}
use Rattle.mix_demand.proofs.demand.is_demanded.Given as goal

abbrev pub invariant-loop-k : goal.invariant-loop-k
invariant-loop-k l = (set : ℕ) → set < l.k → share_in (length l.bundle.items) l.rho l.bundle.items set ≤ℤ number_of l.rho set
