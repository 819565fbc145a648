use Rattle.mix_text.specs.AuctionTexts.{auction_text}
use Rattle.mix_answer.specs.Refusals.{AreConvexBefore}
use Rattle.mix_check.specs.Tests.{AreTablesOfFirst}
use Rattle.mix_check.proofs.tables.bidder_tables.Given as goal

abbrev pub invariant-loop-k : goal.invariant-loop-k
invariant-loop-k l = record {
  convex : AreConvexBefore (auction_text l.auction) l.k;
  tables : AreTablesOfFirst (auction_text l.auction) l.prices.items l.k l.tables.items;
}
