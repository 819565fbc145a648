use Rattle.std.proofs.Common.{◌≡◌, length}
use Rattle.mix_text.specs.Reading.{number_in}
use Rattle.mix_answer.specs.Readings.{numbers_at}
use Rattle.mix_answer.proofs.Turns.{rest_of}
use Rattle.mix_answer.proofs.row_reading.read_each.Given as goal

-- the numbers so far, and what the fields from here on give, are what all fields give
abbrev pub invariant-loop-j : goal.invariant-loop-j
invariant-loop-j l = record {
  count : length l.numbers.items ≡ l.j;
  so_far : rest_of (number_in l.low l.high) l.numbers.items l.first l.count l.j l.row.fields ≡ numbers_at l.first l.count l.low l.high l.row.fields;
}
