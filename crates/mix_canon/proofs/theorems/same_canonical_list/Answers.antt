use Rattle.mix_canon.proofs.NearPrices.{alike_where_same_canon}
use Rattle.mix_canon.proofs.theorems.same_canonical_list.Goals as goal

pub returns : goal.returns
returns c = alike_where_same_canon
