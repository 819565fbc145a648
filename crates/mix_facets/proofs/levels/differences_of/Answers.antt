use Rattle.std.proofs.Common.{List}
use Rattle.mix_num.specs.Ranges.{Lies}
use Rattle.mix_bids.specs.declared.bid.Bid.{Bid}
use Rattle.mix_bids.specs.Leads.{negative_lead}
use Rattle.std.proofs.Common.{subst, arith}
use Rattle.mix_facets.proofs.Steps.{AreImages, images_step, images_end, All-added}
use Rattle.mix_facets.proofs.levels.differences_of.Goals as goal

pub loop-bid-preserved : goal.loop-bid-preserved
loop-bid-preserved c = record {
  members = images_step (λ b. negative_lead b c.args.first c.args.second) c.bids-bid-items.result.now c.loop-bid.bid-index c.bid-item.result c.negative_lead.result c.loop-bid.numbers c.insert.new.self c.loop-bid-test.true c.bid-item.is c.negative_lead.ensures.value c.in_ok-insert.ensures.added c.loop-bid.invariant.members;
  range = All-added (Lies 1000000) c.negative_lead.result c.loop-bid.numbers c.insert.new.self c.in_ok-insert.ensures.added c.negative_lead.ensures.range c.loop-bid.invariant.range;
}

pub returns-clause-members : goal.returns-clause-members
returns-clause-members c =
    let h = λ (b : Bid). negative_lead b c.args.first c.args.second in
    subst (λ (z : List Bid). AreImages h z c.loop-bid.numbers) c.bids-bid-items.ensures.value (images_end h c.bids-bid-items.result.now c.loop-bid.bid-index c.loop-bid.numbers (omega arith) c.loop-bid.invariant.members)
