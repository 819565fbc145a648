use Rattle.std.proofs.Common.{pos, arith}
use Rattle.std.proofs.lemmas.Int.{ints}
use Rattle.std.proofs.lemmas.List.Elements.{All-replicate}
use Rattle.mix_num.specs.Ranges.{Lies}
use Rattle.mix_num.proofs.set_table.SetTable.new.Goals as goal

pub invariant_of-result : goal.invariant_of-result
invariant_of-result c = All-replicate (Lies 4000000000) 512 (pos 0) (omega (arith, ints), omega (arith, ints))
