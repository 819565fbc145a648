-- The least prices of an auction.
use Rattle.std.specs.Prelude.{◌≡◌, List, ℤ, length}
use Rattle.mix_num.specs.Vectors.{with_null}
use Rattle.mix_text.specs.Auctions.{AuctionText}
use Rattle.mix_market.specs.Lyapunov.{IsLeastPoint, lyapunov}
use Rattle.mix_answer.specs.Utilities.{utilities_of}

-- a price for each good: of all at or above the reserves, the least point of the bidders' utilities and the supply's worth
pub record AreLeastPrices (a : AuctionText) (prices : List ℤ) : Type 0 where
  pub count : length prices ≡ length a.goods
  pub least : IsLeastPoint (length a.goods) (lyapunov (utilities_of a) a.supply) (with_null a.reserve) (with_null prices)
