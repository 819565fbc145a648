-- The same bidders in another order.
use Rattle.std.specs.Prelude.{◌≡◌, ℕ, List, length, map}
use Rattle.mix_num.specs.Orders.{IsOrder}
use Rattle.mix_text.specs.Auctions.{AuctionText}
use Rattle.mix_text.specs.Bidders.{bidder_at}
use Rattle.mix_text.specs.Caps.{cap_at}

-- the same bidders with the same bids and caps in another order of appearance, and in whatever tie order; the same supply and reserves
pub record IsReordered (a : AuctionText) (order : List ℕ) (b : AuctionText) : Type 0 where
  pub places : IsOrder (length a.bidders) order
  pub bidders : b.bidders ≡ map (λ k. bidder_at a.bidders k) order
  pub caps : b.caps ≡ map (λ k. cap_at a.caps k) order
  pub supply : b.supply ≡ a.supply
  pub reserve : b.reserve ≡ a.reserve
