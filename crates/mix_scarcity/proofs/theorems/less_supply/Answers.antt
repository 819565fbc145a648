use Rattle.std.proofs.Common.{arith}
use Rattle.std.proofs.lemmas.Int.{ints}
use Rattle.mix_scarcity.proofs.theorems.less_supply.Goals as goal

pub returns : goal.returns
returns c = λ a less goods under.
    record { goods = goods; wanted = λ x y h. omega (arith, ints); less = under; higher = λ i h. omega (arith, ints) }
