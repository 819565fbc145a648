use Rattle.std.proofs.Common.{◌≡◌, ℕ, suc, ◌^◌, ◌+◌, ◌*◌, ◌<◌, length}
use Rattle.mix_num.specs.Orders.{in_order}
use Rattle.mix_num.specs.Tables.{number_of}
use Rattle.mix_text.specs.AuctionTexts.{auction_text}
use Rattle.mix_answer.specs.Truths.{bundles_of}
use Rattle.mix_check.specs.Tests.{IsFirstFailure, LieWithin, rows_of, spare_at}
use Rattle.mix_check.proofs.pairs.tight.Given as goal

abbrev pub invariant-loop-turn : goal.invariant-loop-turn
invariant-loop-turn l = record {
  size : length l.spare ≡ 512;
  spare : (set : ℕ) → set < 2 ^ suc (length l.auction.goods)
      → number_of l.spare set ≡ spare_at (length l.auction.goods) (rows_of l.auction.order l.tables) l.auction.supply.items (in_order l.auction.order (bundles_of l.answer)) l.turn set;
  range : LieWithin (length l.auction.goods) (9000000000 + 150000000 * l.turn) l.spare;
  first : IsFirstFailure (auction_text l.auction) l.answer l.turn l.first;
}
