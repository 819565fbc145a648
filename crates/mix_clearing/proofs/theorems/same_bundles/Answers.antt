use Rattle.std.proofs.Common.{length}
use Rattle.mix_clearing.proofs.ClearingPrices.{clear-where_alike}
use Rattle.mix_clearing.proofs.PriceLists.{floor-where_below}
use Rattle.mix_clearing.proofs.theorems.same_bundles.Goals as goal

pub returns : goal.returns
returns c = λ utilities supply reserve prices bundles kept clear others long above low.
    clear-where_alike utilities supply reserve prices bundles kept clear others long (floor-where_below (length supply) reserve others above) low
