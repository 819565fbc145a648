-- The steps in which a market's prices are found are those in which its auction's are.
use Rattle.std.proofs.Common.{◌≡◌, ◌∙◌, ℕ, ℤ, pos, ◌+ℤ◌, ◌≤ℤ◌, List, length, map, ap, subst}
use Rattle.mix_num.specs.Vectors.{Vector, with_null}
use Rattle.mix_law.specs.declared.convex.Convex.{Ghosts}
use Rattle.mix_cap.specs.MemberLaws.{function_of}
use Rattle.mix_cap.specs.declared.member.Member.{Member}
use Rattle.mix_text.specs.Auctions.{AuctionText, IsAuction}
use Rattle.mix_seller.specs.Sellers.{supply_of}
use Rattle.mix_market.specs.Gaps.{greatest_gap}
use Rattle.mix_market.specs.Lyapunov.{IsLeastPoint, lyapunov}
use Rattle.mix_market.specs.Markets.{goods_of, members_of, seller_of}
use Rattle.mix_market.specs.declared.market.Market.{Market}
use Rattle.mix_answer.specs.Utilities.{utilities_of}
use Rattle.mix_serve.specs.Admissions.{IsMarketOf}
use Rattle.mix_serve.proofs.AuctionPrices.{members_utilities}

-- prices that are found from the last ones in few steps
abbrev pub AreFoundInSteps : ℕ → (Vector → ℤ) → List ℤ → List ℤ → ℕ → ℕ → Type 0
AreFoundInSteps n l last prices before after = (high : Vector) → high 0 ≡ pos 0 → IsLeastPoint n l (with_null last) high
    → pos after ≤ℤ (((pos before +ℤ greatest_gap n high (with_null last)) +ℤ greatest_gap n high (with_null prices)) +ℤ pos 2)

-- a market is over the auction's goods
pub market_goods : {g : Ghosts Member} (a : AuctionText) (market : Market Member g) → IsAuction a → IsMarketOf a market → goods_of market ≡ length a.goods
market_goods a market sound is = ap (λ (supply : List ℤ). length supply) is.supply ∙ sound.supply.0

pub steps_of_auction : {g : Ghosts Member} (a : AuctionText) (market : Market Member g) (last prices : List ℤ) (before after : ℕ) → IsAuction a → IsMarketOf a market
    → AreFoundInSteps (goods_of market) (lyapunov (map function_of (members_of market)) (supply_of (seller_of market))) last prices before after
    → AreFoundInSteps (length a.goods) (lyapunov (utilities_of a) a.supply) last prices before after
steps_of_auction a market last prices before after sound is found =
    let one = subst (λ (n : ℕ). AreFoundInSteps n (lyapunov (map function_of (members_of market)) (supply_of (seller_of market))) last prices before after) (market_goods a market sound is) found in
    let two = subst (λ (functions : List (Vector → ℤ)). AreFoundInSteps (length a.goods) (lyapunov functions (supply_of (seller_of market))) last prices before after) (members_utilities a (members_of market) is.members) one in
    subst (λ (supply : List ℤ). AreFoundInSteps (length a.goods) (lyapunov (utilities_of a) supply) last prices before after) is.supply two
