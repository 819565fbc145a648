use Rattle.mix_clearing.proofs.FallingUtilities.{falls-where_lawful}
use Rattle.mix_laws.proofs.theorems.utilities_fall.Goals as goal

pub returns : goal.returns
returns c = λ n f some laws x y below. falls-where_lawful n f some laws x y below
