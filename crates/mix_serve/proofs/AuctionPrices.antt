-- The least prices of an auction's market are those of the auction.
use Rattle.std.proofs.Common.{◌≡◌, ◌∙◌, ℕ, ℤ, List, [], ◌∷◌, length, map, ap, refl, subst}
use Rattle.mix_num.specs.Vectors.{Vector, with_null}
use Rattle.mix_law.specs.declared.convex.Convex.{Ghosts}
use Rattle.mix_cap.specs.MemberLaws.{function_of}
use Rattle.mix_cap.specs.declared.member.Member.{Member}
use Rattle.mix_cap.specs.declared.member.Member.TheVariants.{Capped, List as Listed}
use Rattle.mix_text.specs.Auctions.{AuctionText, IsAuction}
use Rattle.mix_seller.specs.Sellers.{reserve_of, supply_of}
use Rattle.mix_market.specs.Lyapunov.{IsLeastPoint, lyapunov}
use Rattle.mix_market.specs.Markets.{goods_of, members_of, seller_of}
use Rattle.mix_market.specs.declared.market.Market.{Market}
use Rattle.mix_answer.specs.Utilities.{Entrant, entrant_utility, entrants_of, utilities_of}
use Rattle.mix_serve.specs.Admissions.{IsMarketOf, entrant_of}
use Rattle.mix_serve.specs.LeastPrices.{AreLeastPrices}

-- the functions of the members are the utilities of the bidders that they stand for
members_functions : (members : List Member) → map function_of members ≡ map entrant_utility (map entrant_of members)
members_functions [] = refl
members_functions (Listed valid ∷ members) = ap (λ (functions : List (Vector → ℤ)). function_of (Listed valid) ∷ functions) (members_functions members)
members_functions (Capped capped ∷ members) = ap (λ (functions : List (Vector → ℤ)). function_of (Capped capped) ∷ functions) (members_functions members)

-- members that stand for all bidders have the auction's utilities
pub members_utilities : (a : AuctionText) (members : List Member) → map entrant_of members ≡ entrants_of a → map function_of members ≡ utilities_of a
members_utilities a members same = members_functions members ∙ ap (λ (entrants : List Entrant). map entrant_utility entrants) same

pub least_of_auction : {g : Ghosts Member} (a : AuctionText) (market : Market Member g) (prices : List ℤ) → IsAuction a → IsMarketOf a market → length prices ≡ goods_of market
    → IsLeastPoint (goods_of market) (lyapunov (map function_of (members_of market)) (supply_of (seller_of market))) (with_null (reserve_of (seller_of market))) (with_null prices)
    → AreLeastPrices a prices
least_of_auction a market prices sound is count least =
    let goods : goods_of market ≡ length a.goods = ap (λ (supply : List ℤ). length supply) is.supply ∙ sound.supply.0 in
    let one = subst (λ (n : ℕ). IsLeastPoint n (lyapunov (map function_of (members_of market)) (supply_of (seller_of market))) (with_null (reserve_of (seller_of market))) (with_null prices)) goods least in
    let two = subst (λ (functions : List (Vector → ℤ)). IsLeastPoint (length a.goods) (lyapunov functions (supply_of (seller_of market))) (with_null (reserve_of (seller_of market))) (with_null prices)) (members_utilities a (members_of market) is.members) one in
    let three = subst (λ (supply : List ℤ). IsLeastPoint (length a.goods) (lyapunov (utilities_of a) supply) (with_null (reserve_of (seller_of market))) (with_null prices)) is.supply two in
    record {
      count = count ∙ goods;
      least = subst (λ (reserve : List ℤ). IsLeastPoint (length a.goods) (lyapunov (utilities_of a) a.supply) (with_null reserve) (with_null prices)) is.reserve three;
    }
