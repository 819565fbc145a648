-- What holds of every market: its Lyapunov function keeps the local law, and a good that no member wants any more costs its supply.
use Rattle.std.proofs.Common.{◌≡◌, ℕ, suc, ◌≤◌, All, ◌+ℤ◌, ◌-ℤ◌, ◌≤ℤ◌, arith}
use Rattle.std.proofs.lemmas.Int.{ints}
use Rattle.std.proofs.lemmas.List.Elements.{All-weaker}
use Rattle.mix_num.specs.Vectors.{Vector, plus, only, with_null, sum_to}
use Rattle.mix_num.specs.Ranges.{AreWithin, Lies}
use Rattle.mix_num.specs.Sellers.{IsAmount}
use Rattle.mix_law.specs.Members.{KeepsLocal}
use Rattle.mix_law.specs.declared.convex.Convex.{Ghosts}
use Rattle.mix_seller.specs.Sellers.{supply_of}
use Rattle.mix_market.specs.declared.market.Market.{Market}
use Rattle.mix_market.specs.Memberships.{sum_of_totals}
use Rattle.mix_market.specs.Markets.{members_of, seller_of, goods_of, lyapunov_of, reserves_of}
use Rattle.mix_market.proofs.MarketLaws.{lyapunov_keeps, lyapunov_far}

module _ {D : Type 0} {g : Ghosts D} (market : Market D g) where
  pub market_keeps : KeepsLocal (goods_of market) (lyapunov_of market) (sum_of_totals g.total (members_of market) -ℤ sum_to (suc (goods_of market)) (with_null (supply_of (seller_of market))))
  market_keeps = lyapunov_keeps g.l_natural (members_of market) (supply_of (seller_of market)) market.membership.same_goods

  pub market_far : (x : Vector) (good : ℕ) → 1 ≤ good → good ≤ goods_of market → All (λ member. g.top member good ≤ℤ (x good -ℤ x 0)) (members_of market) → lyapunov_of market (plus x (only good)) ≡ lyapunov_of market x +ℤ with_null (supply_of (seller_of market)) good
  market_far = lyapunov_far g.l_natural (members_of market) (supply_of (seller_of market)) market.membership.same_goods

  -- reserves lie within 1,000,000
  pub reserves_within : AreWithin 1000000 (goods_of market) (reserves_of market)
  reserves_within =
      let sale = (seller_of market).for_sale in
      (sale.reserves.0, All-weaker IsAmount (Lies 1000000) (λ x is. (omega (arith, ints, is.0), is.1)) (reserves_of market) sale.reserves.1)
