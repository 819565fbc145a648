-- The greatest prices under a ceiling that are as low as the least point of an auction's market are the auction's greatest clearing prices there.
use Rattle.std.proofs.Common.{◌≡◌, ◌↔◌, ℕ, zero, suc, ◌<◌, ◌≤◌, ℤ, pos, ◌<ℤ◌, List, length, map, get_or, Option, Some, None, IfSome, refl, subst, sym, arith}
use Rattle.std.specs.Prelude.{IsNone}
use Rattle.std.proofs.lemmas.Int.{ints}
use Rattle.arrayvec.specs.ArrayVec.{ArrayVec}
use Rattle.mix_num.specs.Ranges.{AreWithin}
use Rattle.mix_num.specs.Vectors.{Vector, with_null}
use Rattle.mix_law.specs.declared.convex.Convex.{Ghosts}
use Rattle.mix_cap.specs.MemberLaws.{function_of}
use Rattle.mix_cap.specs.declared.member.Member.{Member}
use Rattle.mix_seller.specs.Sellers.{reserve_of, supply_of}
use Rattle.mix_market.specs.Gaps.{IsAboveSomewhere}
use Rattle.mix_market.specs.Lyapunov.{lyapunov}
use Rattle.mix_market.specs.Markets.{goods_of, members_of, seller_of}
use Rattle.mix_market.specs.declared.market.Market.{Market}
use Rattle.mix_range.specs.HighPoints.{IsGreatestAsLow}
use Rattle.mix_clearing.specs.Ceilings.{AreGreatestClearing}
use Rattle.mix_law.specs.Clearings.{CanClear}
use Rattle.mix_clearing.proofs.Ceilings.{greatest_clearing-where_greatest}
use Rattle.mix_text.specs.Auctions.{AuctionText, IsAuction}
use Rattle.mix_answer.specs.Utilities.{utilities_of}
use Rattle.mix_serve.specs.Admissions.{IsMarketOf}
use Rattle.mix_serve.proofs.AuctionPrices.{members_utilities}
use Rattle.mix_run.specs.command.Range.{IsHigh}

-- for bidders that are known by their utilities
greatest_clearing : (utilities : List (Vector → ℤ)) (supply reserve ceiling low high : List ℤ) → CanClear utilities supply reserve low → length high ≡ length supply
    → IsGreatestAsLow (length supply) (lyapunov utilities supply) (with_null reserve) (with_null ceiling) (with_null low) (with_null high) → AreGreatestClearing utilities supply reserve ceiling high
greatest_clearing utilities supply reserve ceiling low high can size is =
    greatest_clearing-where_greatest utilities supply reserve low can ceiling high size is.own.above is.own.below is.own.same
    (λ others above below same. is.greatest (with_null others) (record { null = refl; above = above; below = below; same = same }))

greatest_of_auction : {g : Ghosts Member} (a : AuctionText) (market : Market Member g) (ceiling low high : List ℤ) → IsMarketOf a market → CanClear (utilities_of a) a.supply a.reserve low
    → length high ≡ goods_of market
    → IsGreatestAsLow (goods_of market) (lyapunov (map function_of (members_of market)) (supply_of (seller_of market))) (with_null (reserve_of (seller_of market))) (with_null ceiling) (with_null low) (with_null high)
    → AreGreatestClearing (utilities_of a) a.supply a.reserve ceiling high
greatest_of_auction a market ceiling low high is can size greatest =
    let one = subst (λ (functions : List (Vector → ℤ)). IsGreatestAsLow (goods_of market) (lyapunov functions (supply_of (seller_of market))) (with_null (reserve_of (seller_of market))) (with_null ceiling) (with_null low) (with_null high)) (members_utilities a (members_of market) is.members) greatest in
    let two = subst (λ (supply : List ℤ). IsGreatestAsLow (length supply) (lyapunov (utilities_of a) supply) (with_null (reserve_of (seller_of market))) (with_null ceiling) (with_null low) (with_null high)) is.supply one in
    let three = subst (λ (reserve : List ℤ). IsGreatestAsLow (length a.supply) (lyapunov (utilities_of a) a.supply) (with_null reserve) (with_null ceiling) (with_null low) (with_null high)) is.reserve two in
    let long : length high ≡ length a.supply = subst (λ (supply : List ℤ). length high ≡ length supply) is.supply size in
    greatest_clearing (utilities_of a) a.supply a.reserve ceiling low high can long three

-- a price above the ceiling's is that of a good
above_good : (n : ℕ) (ceiling low : List ℤ) (k : ℕ) → k ≤ n → with_null ceiling k <ℤ with_null low k → (i : ℕ) × (i < n) × (get_or ceiling i (pos 0) <ℤ get_or low i (pos 0))
above_good n ceiling low zero l h = absurd (omega (arith, ints, h))
above_good n ceiling low (suc i) l h = (i, omega (arith, l), h)

-- what was found is what the auction wants
pub high_of_auction : {g : Ghosts Member} (a : AuctionText) (market : Market Member g) (ceiling low : List ℤ) (high : Option (ArrayVec ℤ)) → IsAuction a → IsMarketOf a market
    → CanClear (utilities_of a) a.supply a.reserve low
    → (IsNone high ↔ IsAboveSomewhere (goods_of market) (with_null low) (with_null ceiling))
    → IfSome high (λ found. IsGreatestAsLow (goods_of market) (lyapunov (map function_of (members_of market)) (supply_of (seller_of market))) (with_null (reserve_of (seller_of market))) (with_null ceiling) (with_null low) (with_null found.items))
    → IfSome high (λ found. AreWithin 1000000 (goods_of market) found.items)
    → IsHigh a ceiling low high
high_of_auction a market ceiling low None sound is can none greatest range =
    let above : IsAboveSomewhere (goods_of market) (with_null low) (with_null ceiling) = none.0 refl in
    let goods : goods_of market ≡ length a.goods = subst (λ (supply : List ℤ). length supply ≡ length a.goods) (sym is.supply) sound.supply.0 in
    let found = above_good (goods_of market) ceiling low above.0 above.1 above.2 in
    (found.0, omega (arith, found.1, goods), found.2)
high_of_auction a market ceiling low (Some found) sound is can none greatest range = greatest_of_auction a market ceiling low found.items is can range.0 greatest
