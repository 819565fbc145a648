use Rattle.std.proofs.Common.{◌≡◌, ◌++◌, drop}
use Rattle.mix_bids.specs.Levels.{has_lead}
use Rattle.mix_facets.specs.Levels.{places as places_where}
use Rattle.mix_facets.proofs.level.places_of.Given as goal

abbrev pub invariant-loop-place : goal.invariant-loop-place
invariant-loop-place l = l.places.items ++ places_where (has_lead l.first l.second l.difference) l.place (drop l.place l.bid-items) ≡ places_where (has_lead l.first l.second l.difference) 0 l.bid-items
