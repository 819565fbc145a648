use Rattle.std.proofs.Common.{map, refl}
use Rattle.mix_num.specs.Sums.{dot_of}
use Rattle.mix_clearing.proofs.FairOutcomes.{paid-where_clears}
use Rattle.mix_laws.proofs.theorems.seller_is_paid.Goals as goal

pub returns : goal.returns
returns c = λ utilities supply reserve prices bundles kept clear long. paid-where_clears utilities supply reserve prices bundles (map (dot_of prices) bundles) kept clear long refl
