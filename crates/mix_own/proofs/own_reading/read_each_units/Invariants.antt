use Rattle.std.proofs.Common.{◌≡◌, ◌+◌, [], drop}
use Rattle.mix_text.specs.AuctionTexts.{auction_text}
use Rattle.mix_own.specs.Readings.{FitsRoom, own_numbers_after}
use Rattle.mix_own.proofs.own_reading.read_each_units.Given as goal

-- the goods so far
abbrev pub invariant-loop-i : goal.invariant-loop-i
invariant-loop-i l = record {
  same : own_numbers_after (auction_text l.auction) l.owned l.bundle.items (drop (l.i + 2) l.row.fields) ≡ own_numbers_after (auction_text l.auction) l.owned [] (drop 2 l.row.fields);
  fit : FitsRoom (auction_text l.auction) l.owned l.i l.bundle.items;
}
