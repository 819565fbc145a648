use Rattle.std.proofs.Common.{◌≡◌, [], drop}
use Rattle.mix_text.specs.Reading.{names_after}
use Rattle.mix_text.proofs.reading.read_names.Given as goal

abbrev pub invariant-loop-k : goal.invariant-loop-k
invariant-loop-k l = names_after l.names (drop l.k l.row.fields) ≡ names_after [] (drop 1 l.row.fields)
