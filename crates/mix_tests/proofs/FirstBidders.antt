-- What is known of the list of an auction's first bidder: its goods are those of the auction, and the reserves are prices of them.
use Rattle.std.proofs.Common.{◌≡◌, ◌∙◌, ◌<◌, [], length, arith, sym}
use Rattle.std.proofs.lemmas.Int.{ints}
use Rattle.std.proofs.lemmas.List.Elements.{All-weaker}
use Rattle.mix_num.specs.Ranges.{HaveRoom, Lies}
use Rattle.mix_num.specs.Sellers.{IsAmount}
use Rattle.mix_text.specs.Auctions.{AuctionText, IsAuction}
use Rattle.mix_text.specs.Bidders.{list_at}

pub first_goods : (a : AuctionText) → IsAuction a → 0 < length a.bidders → (list_at a.bidders 0).goods ≡ length a.supply
first_goods a is some = (is.books 0 ([], record { goods = 0; bids = [] }) some).goods ∙ sym is.supply.0

pub first_room : (a : AuctionText) → IsAuction a → HaveRoom (length a.supply) a.reserve
first_room a is = (is.reserve.0 ∙ sym is.supply.0, All-weaker IsAmount (Lies 3999999) (λ x amount. (omega (arith, ints, amount.0), omega (arith, ints, amount.1))) a.reserve is.reserve.1)
