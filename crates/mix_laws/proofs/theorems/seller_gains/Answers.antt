use Rattle.mix_laws.proofs.BestPrices.{gains-where_higher}
use Rattle.mix_laws.proofs.theorems.seller_gains.Goals as goal

pub returns : goal.returns
returns c = λ utilities others supply reserve prices later bundles after returns kept long first second above.
    gains-where_higher utilities others supply reserve prices later bundles after returns kept long first second above
