-- What the bidders own, and what is offered where this stands beside the supply.
use Rattle.std.specs.Prelude.{◌≡◌, ◌<◌, ℕ, ℤ, pos, ◌+ℤ◌, ◌≤ℤ◌, ◌<ℤ◌, List, [], length, get_or, map, All}
use Rattle.mix_num.specs.Orders.{places}
use Rattle.mix_num.specs.Sellers.{AreAmounts}
use Rattle.mix_num.specs.Shares.{sum_at}
use Rattle.mix_text.specs.Auctions.{AuctionText}

-- what the bidder at a place owns of each good, and nothing where the place isn't there
abbrev pub owned_at : List (List ℤ) → ℕ → List ℤ
owned_at owned k = get_or owned k []

-- what all bidders own of the good at a place
abbrev pub owned_of_good : List (List ℤ) → ℕ → ℤ
owned_of_good owned i = sum_at owned i

-- what the bidders of an auction may own: each an amount of each good; a good of which somebody owns a unit has the reserve 0; and
-- the supply of a good and all that is owned of it are at most 1,000,000 together
pub record AreOwned (a : AuctionText) (owned : List (List ℤ)) : Type 0 where
  pub count : length owned ≡ length a.bidders
  pub each : All (AreAmounts (length a.goods)) owned
  pub free : (i : ℕ) → i < length a.goods → pos 0 <ℤ owned_of_good owned i → get_or a.reserve i (pos 0) ≡ pos 0
  pub most : (i : ℕ) → i < length a.goods → (get_or a.supply i (pos 0) +ℤ owned_of_good owned i) ≤ℤ pos 1000000

-- the supply of each good and all that is owned of it
unfoldable pub gross_supply : List ℤ → List (List ℤ) → List ℤ
gross_supply supply owned = map (λ i. get_or supply i (pos 0) +ℤ owned_of_good owned i) (places (length supply))

-- the auction of the supply and of all that is owned
abbrev pub gross_of : AuctionText → List (List ℤ) → AuctionText
gross_of a owned = record a { supply = gross_supply a.supply owned }
