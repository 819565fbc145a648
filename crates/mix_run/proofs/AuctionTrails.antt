-- The trail of an auction's market is that of the auction.
use Rattle.std.proofs.Common.{◌≡◌, ◌∙◌, ℕ, ℤ, List, length, map, ap, subst}
use Rattle.mix_num.specs.Vectors.{Vector, with_null}
use Rattle.mix_law.specs.declared.convex.Convex.{Ghosts}
use Rattle.mix_cap.specs.MemberLaws.{function_of}
use Rattle.mix_cap.specs.declared.member.Member.{Member}
use Rattle.mix_text.specs.Auctions.{AuctionText, IsAuction}
use Rattle.mix_seller.specs.Sellers.{reserve_of, supply_of}
use Rattle.mix_market.specs.Lyapunov.{lyapunov}
use Rattle.mix_market.specs.Markets.{goods_of, members_of, seller_of}
use Rattle.mix_market.specs.declared.market.Market.{Market}
use Rattle.mix_descent.specs.Trails.{IsTrail}
use Rattle.mix_descent.specs.declared.long_step.LongStep.{LongStep}
use Rattle.mix_answer.specs.Utilities.{utilities_of}
use Rattle.mix_serve.specs.Admissions.{IsMarketOf}
use Rattle.mix_serve.proofs.AuctionPrices.{members_utilities}
use Rattle.mix_run.specs.command.Trail.{IsTrailOf}

pub trail_of_auction : {g : Ghosts Member} (a : AuctionText) (market : Market Member g) (steps : List LongStep) (prices : List ℤ) → IsAuction a → IsMarketOf a market
    → IsTrail (goods_of market) (lyapunov (map function_of (members_of market)) (supply_of (seller_of market))) (with_null (reserve_of (seller_of market))) steps (with_null prices)
    → IsTrailOf a steps prices
trail_of_auction a market steps prices sound is trail =
    let goods : goods_of market ≡ length a.goods = ap (λ (supply : List ℤ). length supply) is.supply ∙ sound.supply.0 in
    let one = subst (λ (n : ℕ). IsTrail n (lyapunov (map function_of (members_of market)) (supply_of (seller_of market))) (with_null (reserve_of (seller_of market))) steps (with_null prices)) goods trail in
    let two = subst (λ (functions : List (Vector → ℤ)). IsTrail (length a.goods) (lyapunov functions (supply_of (seller_of market))) (with_null (reserve_of (seller_of market))) steps (with_null prices)) (members_utilities a (members_of market) is.members) one in
    let three = subst (λ (supply : List ℤ). IsTrail (length a.goods) (lyapunov (utilities_of a) supply) (with_null (reserve_of (seller_of market))) steps (with_null prices)) is.supply two in
    subst (λ (reserve : List ℤ). IsTrail (length a.goods) (lyapunov (utilities_of a) a.supply) (with_null reserve) steps (with_null prices)) is.reserve three
