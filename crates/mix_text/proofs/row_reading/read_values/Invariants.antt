use Rattle.std.proofs.Common.{◌≡◌, ◌+◌, length, drop}
use Rattle.mix_text.specs.Reading.{each_of, value_of}
use Rattle.mix_text.proofs.Turns.{each_more}
use Rattle.mix_text.proofs.row_reading.read_values.Given as goal

abbrev pub invariant-loop-k : goal.invariant-loop-k
invariant-loop-k l = record {
  count : length l.values.items + 3 ≡ l.k;
  same : each_more value_of l.values.items (drop l.k l.row.fields) ≡ each_of value_of (drop 3 l.row.fields);
}
