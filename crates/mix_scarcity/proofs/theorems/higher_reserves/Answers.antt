use Rattle.std.proofs.Common.{arith, refl}
use Rattle.std.proofs.lemmas.Int.{ints}
use Rattle.mix_scarcity.proofs.theorems.higher_reserves.Goals as goal

pub returns : goal.returns
returns c = λ a higher over.
    record { goods = refl; wanted = λ x y h. omega (arith, ints); less = λ i h. omega (arith, ints); higher = over }
