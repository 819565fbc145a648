use Rattle.std.proofs.Common.{◌≡◌, take}
use Rattle.mix_text.proofs.names.Names.copy.Given as goal

abbrev pub invariant-loop-k : goal.invariant-loop-k
invariant-loop-k l = l.names ≡ take l.k l.self
