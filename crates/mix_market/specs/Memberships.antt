-- What holds of the members of a market.
use Rattle.std.specs.Prelude.{◌≡◌, ℕ, suc, ◌≤◌, ◌<◌, List, [], ◌∷◌, ℤ, pos, ◌+ℤ◌, ◌≤ℤ◌, length, All, get_or}
use Rattle.mix_num.specs.Ranges.{AreWithin}
use Rattle.mix_num.specs.declared.limits.TheConstants.{MOST_VALUE}
use Rattle.mix_market.specs.Extremes.{greatest_of}

-- how many members there may be, the goods of each, and the range of each total
pub record AreMembers {D : Type 0} (size : D → ℕ) (weight : D → ℤ) (n : ℕ) (members : List D) : Type 0 where
  pub few : length members ≤ 256
  pub same_goods : All (λ member. size member ≡ n) members
  pub totals : All (λ member. (pos 0 ≤ℤ weight member) × (weight member ≤ℤ pos 8000000)) members

-- for each of n goods the greatest of the members' tops
pub record AreTops {D : Type 0} (top : D → ℕ → ℤ) (n : ℕ) (members : List D) (tops : List ℤ) : Type 0 where
  pub ranges : AreWithin MOST_VALUE n tops
  pub greatest : (good : ℕ) → good < n → get_or tops good (pos 0) ≡ greatest_of (λ member. top member (suc good)) members

-- the sum of the members' totals
abbrev pub sum_of_totals : {D : Type 0} → (D → ℤ) → List D → ℤ
sum_of_totals weight [] = pos 0
sum_of_totals weight (member ∷ members) = weight member +ℤ sum_of_totals weight members
