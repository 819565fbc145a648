use Rattle.std.proofs.Common.{◌≡◌, ℤ, Some, None, drop}
use Rattle.mix_num.specs.Ranges.{Lies}
use Rattle.mix_facets.specs.Levels.{bids_of}
use Rattle.mix_facets.specs.Candidates.{least_lead}
use Rattle.mix_facets.proofs.candidates.lowest.Given as goal

abbrev pub invariant-loop-number : goal.invariant-loop-number
invariant-loop-number l = record {
  so_far : least_lead l.level.first l.choice (drop l.number (bids_of l.list l.level)) l.least ≡ least_lead l.level.first l.choice (bids_of l.list l.level) None;
  range : (v : ℤ) → l.least ≡ Some v → Lies 1000000 v;
}
