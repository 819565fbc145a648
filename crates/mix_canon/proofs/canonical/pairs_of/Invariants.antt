use Rattle.std.proofs.Common.{◌≡◌, ◌++◌}
use Rattle.mix_canon.proofs.Entries.{pairs_in}
use Rattle.mix_canon.proofs.canonical.pairs_of.Given as goal

abbrev pub invariant-loop-values : goal.invariant-loop-values
invariant-loop-values l = l.terms ++ pairs_in l.values-iterator ≡ pairs_in l.weights.entries
