-- What contracts see of a market.
use Rattle.std.specs.Prelude.{List, ℤ, ℕ, map, length}
use Rattle.mix_num.specs.Vectors.{Vector}
use Rattle.mix_law.specs.declared.convex.Convex.{Ghosts}
use Rattle.mix_seller.specs.declared.seller.Seller.{Seller}
use Rattle.mix_seller.specs.Sellers.{supply_of, reserve_of}
use Rattle.mix_market.specs.declared.market.Market.{Market}
use Rattle.mix_market.specs.Lyapunov.{lyapunov}

-- the members, in order
abbrev pub members_of : {D : Type 0} {g : Ghosts D} → Market D g → List D
members_of market = market.members.items

-- the seller
abbrev pub seller_of : {D : Type 0} {g : Ghosts D} → Market D g → Seller
seller_of market = market.seller

-- how many goods there are
abbrev pub goods_of : {D : Type 0} {g : Ghosts D} → Market D g → ℕ
goods_of market = length (supply_of (seller_of market))

-- the market's Lyapunov function: the members' functions and the seller's supply
abbrev pub lyapunov_of : {D : Type 0} {g : Ghosts D} → Market D g → Vector → ℤ
lyapunov_of {D} {g} market = lyapunov (map g.function (members_of market)) (supply_of (seller_of market))

-- the seller's reserves
abbrev pub reserves_of : {D : Type 0} {g : Ghosts D} → Market D g → List ℤ
reserves_of market = reserve_of (seller_of market)
