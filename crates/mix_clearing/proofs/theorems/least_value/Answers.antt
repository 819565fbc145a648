use Rattle.std.proofs.Common.{length}
use Rattle.mix_clearing.proofs.ClearingPrices.{least-where_clear}
use Rattle.mix_clearing.proofs.PriceLists.{floor-where_below}
use Rattle.mix_clearing.proofs.theorems.least_value.Goals as goal

pub returns : goal.returns
returns c = λ utilities supply reserve prices can others long above.
    least-where_clear utilities supply reserve prices can.0 can.1 can.2 others long (floor-where_below (length supply) reserve others above)
