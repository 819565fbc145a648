-- What a seller offers, and the seller's function of the prices.
use Rattle.std.specs.Prelude.{◌≡◌, ℕ, suc, ◌≤◌, List, ℤ, pos, ◌-ℤ◌, ◌*ℤ◌, ◌≤ℤ◌, length, All}
use Rattle.std.specs.Int.{int_max}
use Rattle.mix_num.specs.Vectors.{Vector, sum_to, with_null}
use Rattle.mix_num.specs.declared.limits.TheConstants.{MOST_VALUE}

-- from 0 to the most that a value may be, in money, or the units of a good
abbrev pub IsAmount : ℤ → Type 0
IsAmount x = (pos 0 ≤ℤ x) × (x ≤ℤ pos MOST_VALUE)

-- an amount for each of n goods
abbrev pub AreAmounts : ℕ → List ℤ → Type 0
AreAmounts n xs = (length xs ≡ n) × All IsAmount xs

-- a supply and a reserve of each good, of 1 to 8 goods
pub record IsForSale (supply reserve : List ℤ) : Type 0 where
  pub some : 1 ≤ length supply
  pub few : length supply ≤ 8
  pub supplies : AreAmounts (length supply) supply
  pub reserves : AreAmounts (length supply) reserve

-- all units for sale
abbrev pub units : List ℤ → ℤ
units supply = sum_to (length supply) (λ k. with_null supply (suc k))

-- what a unit of a good leaves the seller: the reserve less the price, or nothing less the null choice's price where that is greater
abbrev pub unit_gain : List ℤ → Vector → ℕ → ℤ
unit_gain reserve x good = int_max (pos 0 -ℤ x 0) (with_null reserve good -ℤ x good)

-- the seller's function: over the goods, the sum of the supply times what a unit leaves
abbrev pub seller_gain : List ℤ → List ℤ → Vector → ℤ
seller_gain supply reserve x = sum_to (length supply) (λ k. with_null supply (suc k) *ℤ unit_gain reserve x (suc k))
