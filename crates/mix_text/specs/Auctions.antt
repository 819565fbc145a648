-- An auction as contracts see it, and what is true of each.
use Rattle.std.specs.Prelude.{◌≡◌, ◌≤◌, ℕ, ℤ, List, Option, length, map, All}
use Rattle.mix_num.specs.Orders.{places}
use Rattle.mix_num.specs.Sellers.{AreAmounts}
use Rattle.mix_bids.specs.Bids.{AreBids, Book}
use Rattle.mix_text.specs.Caps.{AreCaps, no_caps}
use Rattle.mix_text.specs.Formats.{IsFormat}
use Rattle.mix_text.specs.Names.{AreNames}
use Rattle.mix_text.specs.Orders.{IsTieOrder}

-- the number of the format, the names of the goods, a supply and a reserve for each, the bidders by name in order of first appearance, their
-- caps, and the tie order: their places in the order in which they are served
pub record AuctionText : Type 0 where
  pub format : ℕ
  pub goods : List (List ℕ)
  pub supply : List ℤ
  pub reserve : List ℤ
  pub bidders : List (List ℕ × Book)
  pub caps : List (Option ℤ)
  pub order : List ℕ

-- a bidder's list over n goods: at least one bid, and at most 400
pub record IsBook (n : ℕ) (book : Book) : Type 0 where
  pub goods : book.goods ≡ n
  pub some : 1 ≤ length book.bids
  pub few : length book.bids ≤ 400
  pub bids : AreBids n book.bids

-- an auction of one of the formats: everything in it speaks of the same 1 to 8 goods, and of at most 256 bidders, who in
-- format 1 are served in order of first appearance, and in formats 1 and 2 have no caps
pub record IsAuction (a : AuctionText) : Type 0 where
  pub format : IsFormat a.format
  pub some_goods : 1 ≤ length a.goods
  pub few_goods : length a.goods ≤ 8
  pub goods : AreNames a.goods
  pub supply : AreAmounts (length a.goods) a.supply
  pub reserve : AreAmounts (length a.goods) a.reserve
  pub names : AreNames (map (λ bidder. bidder.0) a.bidders)
  pub few_bidders : length a.bidders ≤ 256
  pub books : All (λ bidder. IsBook (length a.goods) bidder.1) a.bidders
  pub caps : AreCaps a.bidders a.caps
  pub order : IsTieOrder (length a.bidders) a.order
  pub first_format : a.format ≡ 1 → a.order ≡ places (length a.bidders)
  pub uncapped : a.format ≤ 2 → a.caps ≡ no_caps (length a.bidders)
