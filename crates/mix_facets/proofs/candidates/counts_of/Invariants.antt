use Rattle.std.proofs.Common.{◌≡◌, ◌≤◌, length, take, All}
use Rattle.mix_facets.specs.Levels.{bids_of}
use Rattle.mix_facets.specs.Points.{IsCoordinate, IsNullCoordinate}
use Rattle.mix_facets.specs.Candidates.{counting_from}
use Rattle.mix_facets.proofs.Steps.{AreImages}
use Rattle.mix_facets.proofs.candidates.counts_of.Given as goal

abbrev pub invariant-loop-number : goal.invariant-loop-number
invariant-loop-number l = record {
  members : AreImages (counting_from l.level.first l.choice) (take l.number (bids_of l.list l.level)) l.numbers;
  few : length l.numbers ≤ l.number;
  near : All IsCoordinate l.numbers;
  null : l.choice ≡ 0 → All IsNullCoordinate l.numbers;
}
