-- How far numbers may lie from 0.
use Rattle.std.specs.Prelude.{◌≡◌, ℕ, List, ℤ, pos, neg_ℤ, ◌≤ℤ◌, length, All}
use Rattle.mix_num.specs.declared.limits.TheConstants.{PRICE_BOUND}

-- from -m to m
abbrev pub Lies : ℕ → ℤ → Type 0
Lies m x = (neg_ℤ (pos m) ≤ℤ x) × (x ≤ℤ pos m)

-- n numbers, each from -m to m
abbrev pub AreWithin : ℕ → ℕ → List ℤ → Type 0
AreWithin m n xs = (length xs ≡ n) × All (Lies m) xs

-- a price for each of n goods, none further from 0 than any price may lie
abbrev pub ArePrices : ℕ → List ℤ → Type 0
ArePrices n prices = AreWithin PRICE_BOUND n prices

-- a price for each of n goods, with room for one step up and one down
abbrev pub HaveRoom : ℕ → List ℤ → Type 0
HaveRoom n prices = AreWithin 3999999 n prices
