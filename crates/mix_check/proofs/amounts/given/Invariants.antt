use Rattle.std.proofs.Common.{◌≡◌, ◌*◌, map, take}
use Rattle.mix_num.specs.Ranges.{Lies}
use Rattle.mix_num.specs.Shares.{sum_at}
use Rattle.mix_check.proofs.amounts.given.Given as goal

abbrev pub invariant-loop-k : goal.invariant-loop-k
invariant-loop-k l = record { value : l.sum ≡ sum_at (take l.k (map (λ share. share.bundle.items) l.shares)) l.good; range : Lies (1000000 * l.k) l.sum }
