use Rattle.std.proofs.Common.{below_more, arith}
use Rattle.mix_text.specs.AuctionTexts.{auction_text}
use Rattle.mix_check.specs.Tests.{StandsFor}
use Rattle.mix_check.proofs.DemandTests.{one_more_table}
use Rattle.mix_check.proofs.tables.bidder_tables.Goals as goal

pub loop-k-preserved : goal.loop-k-preserved
loop-k-preserved c =
    let stands : StandsFor (auction_text c.args.auction.now) c.loop-k.k c.in-Some.member = rw c.in-Some.is at c.in_ok-member.ensures in
    record {
      convex = below_more _ _ c.loop-k.invariant.convex stands.convex;
      tables = one_more_table (auction_text c.args.auction.now) c.args.prices.now.items c.loop-k.k c.loop-k.tables.items c.push.new.self.items c.in_ok-table.table c.in-Some.member (omega arith) stands
          c.in_ok-table.ensures.table c.in_ok-table.ensures.proper c.in-Ok.ensures.items c.loop-k.invariant.tables;
    }
