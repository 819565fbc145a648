use Rattle.std.proofs.Common.{take, All}
use Rattle.mix_num.specs.Ranges.{Lies}
use Rattle.mix_bids.specs.Leads.{negative_lead}
use Rattle.mix_facets.proofs.Steps.{AreImages}
use Rattle.mix_facets.proofs.levels.differences_of.Given as goal

abbrev pub invariant-loop-bid : goal.invariant-loop-bid
invariant-loop-bid l = record {
  members : AreImages (λ b. negative_lead b l.first l.second) (take l.bid-index l.bid-items) l.numbers;
  range : All (Lies 1000000) l.numbers;
}
