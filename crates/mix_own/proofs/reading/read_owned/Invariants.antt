use Rattle.std.proofs.Common.{◌≡◌, drop}
use Rattle.mix_text.specs.AuctionTexts.{auction_text}
use Rattle.mix_own.specs.Readings.{IsSoFar, range_after, range_from}
use Rattle.mix_own.proofs.reading.read_owned.Given as goal

-- what is owned so far keeps to the limits, and the rows from here on say the same after it
abbrev pub invariant-loop-k : goal.invariant-loop-k
invariant-loop-k l = record {
  sound : IsSoFar (auction_text l.auction) (record { owned = l.owned; told = l.told.items });
  same : range_after (auction_text l.auction) l.rest ≡ range_from (auction_text l.auction) l.rest.next (record { owned = l.owned; told = l.told.items }) (drop l.k l.rest.rows);
}
