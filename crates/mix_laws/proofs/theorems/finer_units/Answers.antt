use Rattle.mix_laws.proofs.FinerUnits.{least-finer}
use Rattle.mix_laws.proofs.theorems.finer_units.Goals as goal

pub returns : goal.returns
returns c = λ d some utilities supply reserve prices scales once finer are. least-finer d some utilities supply reserve scales once finer prices are
