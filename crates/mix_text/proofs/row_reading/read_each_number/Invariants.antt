use Rattle.std.proofs.Common.{◌≡◌, ◌+◌, length, drop}
use Rattle.mix_text.specs.Reading.{each_of, number_in}
use Rattle.mix_text.proofs.Turns.{each_more}
use Rattle.mix_text.proofs.row_reading.read_each_number.Given as goal

abbrev pub invariant-loop-k : goal.invariant-loop-k
invariant-loop-k l = record {
  count : length l.numbers.items + 1 ≡ l.k;
  same : each_more (number_in l.low l.high) l.numbers.items (drop l.k l.row.fields) ≡ each_of (number_in l.low l.high) (drop 1 l.row.fields);
}
