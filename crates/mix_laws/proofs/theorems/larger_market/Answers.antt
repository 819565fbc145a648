use Rattle.mix_laws.proofs.LargerMarkets.{least-enlarged}
use Rattle.mix_laws.proofs.theorems.larger_market.Goals as goal

pub returns : goal.returns
returns c = λ m some utilities supply reserve prices are. least-enlarged m some utilities supply reserve prices are
