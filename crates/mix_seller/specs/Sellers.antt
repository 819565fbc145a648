-- What contracts see of a seller.
use Rattle.std.specs.Prelude.{List, ℤ}
use Rattle.mix_num.specs.Sellers.{IsForSale}
use Rattle.mix_seller.specs.declared.seller.Seller.{Seller}

-- the supply of each good
abbrev pub supply_of : Seller → List ℤ
supply_of s = s.supply.items

-- the reserve of each good
abbrev pub reserve_of : Seller → List ℤ
reserve_of s = s.reserve.items

-- every seller's supply and reserve may be for sale
pub for_sale : (s : Seller) → IsForSale (supply_of s) (reserve_of s)
for_sale s = s.for_sale
