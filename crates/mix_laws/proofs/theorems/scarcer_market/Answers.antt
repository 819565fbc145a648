use Rattle.mix_laws.proofs.ScarcerMarkets.{no_price_is_lower}
use Rattle.mix_laws.proofs.theorems.scarcer_market.Goals as goal

pub returns : goal.returns
returns c = λ utilities others supply reserve offered floor laws scarcer. no_price_is_lower utilities supply reserve others offered floor laws scarcer
