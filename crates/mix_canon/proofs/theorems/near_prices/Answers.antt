use Rattle.mix_canon.proofs.NearPrices.{alike_where_near}
use Rattle.mix_canon.proofs.theorems.near_prices.Goals as goal

pub returns : goal.returns
returns c = λ n bs cs bare care near. (alike_where_near n bs cs bare care).1 near
