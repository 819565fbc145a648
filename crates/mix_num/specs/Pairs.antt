-- Pairs of sets of choices, and the number that a pair gives for a member and a good: it bounds from above what the member can get of
-- the good. Tables and bundles stand in the order in which the members are served, the seller's last; goods are counted from 0, so
-- good j is the choice j + 1.
use Rattle.std.specs.Prelude.{◌≡◌, ℕ, suc, ◌≤◌, ◌<◌, ◌^◌, true, false, cond, ℤ, pos, ◌+ℤ◌, ◌-ℤ◌, List, [], ◌∷◌, ◌++◌, get_or, take, drop}
use Rattle.mix_num.specs.Vectors.{sum_to, members}
use Rattle.mix_num.specs.Sums.{entries, sum_in}
use Rattle.mix_num.specs.Tables.{number_of, share_in}
use Rattle.mix_num.specs.Shares.{sum_at, supply_null}
use Rattle.mix_num.specs.Orders.{in_order}

-- a pair for good j: the upper set has the good, the lower one doesn't, and they agree in the null choice and in the goods after j
pub record IsPair (n j upper lower : ℕ) : Type 0 where
  pub upper_set : upper < 2 ^ suc n
  pub lower_set : lower < 2 ^ suc n
  pub inside : members upper (suc j) ≡ true
  pub outside : members lower (suc j) ≡ false
  pub null : members upper 0 ≡ members lower 0
  pub later : (i : ℕ) → suc j < i → i ≤ n → members upper i ≡ members lower i

-- what a bundle has of those goods before good j that are in a set
abbrev pub sum_before : ℕ → List ℤ → ℕ → ℤ
sum_before j bundle set = sum_to j (λ i. cond (members set (suc i)) (entries bundle i) (pos 0))

-- the number of a pair, from the member's table, from what must be given to the member at each set, and from the member's goods before j
abbrev pub pair_number : ℕ → List ℤ → (ℕ → ℤ) → List ℤ → ℕ → ℕ → ℤ
pair_number j table floor bundle upper lower = ((number_of table upper -ℤ sum_before j bundle upper) -ℤ floor lower) +ℤ sum_before j bundle lower

-- the pair's number is what the bundle has of the good
pub record IsTight (n j : ℕ) (table : List ℤ) (floor : ℕ → ℤ) (bundle : List ℤ) (upper lower : ℕ) : Type 0 where
  pub pair : IsPair n j upper lower
  pub number : pair_number j table floor bundle upper lower ≡ get_or bundle j (pos 0)

-- the first tight pair: of all, it has the least upper set, and among these the least lower one
pub record IsFirstTight (n j : ℕ) (table : List ℤ) (floor : ℕ → ℤ) (bundle : List ℤ) (upper lower : ℕ) : Type 0 where
  pub tight : IsTight n j table floor bundle upper lower
  pub least_upper : (a b : ℕ) → IsTight n j table floor bundle a b → upper ≤ a
  pub least_lower : (b : ℕ) → IsTight n j table floor bundle upper b → lower ≤ b

-- what the members have of a set, each with the null share of its table
abbrev pub shares_in : ℕ → List (List ℤ) → List (List ℤ) → ℕ → ℤ
shares_in n [] bundles set = pos 0
shares_in n (table ∷ tables) [] set = pos 0
shares_in n (table ∷ tables) (bundle ∷ bundles) set = share_in n table bundle set +ℤ shares_in n tables bundles set

-- what is left of the supply at a set once the members before the k-th have their bundles
abbrev pub left_at : ℕ → List (List ℤ) → List ℤ → List (List ℤ) → ℕ → ℕ → ℤ
left_at n tables supply bundles k set = sum_in (supply_null n tables supply ∷ supply) set -ℤ shares_in n (take k tables) (take k bundles) set

-- what of it the k-th member must get: the members after it can take no more than their numbers
abbrev pub floor_at : ℕ → List (List ℤ) → List ℤ → List (List ℤ) → ℕ → ℕ → ℤ
floor_at n tables supply bundles k set = left_at n tables supply bundles k set -ℤ sum_at (drop (suc k) tables) set

-- a pair is tight, or is the first tight pair, of the k-th member and good j
abbrev pub IsTightOf : ℕ → List (List ℤ) → List ℤ → List (List ℤ) → ℕ → ℕ → ℕ → ℕ → Type 0
IsTightOf n tables supply bundles k j upper lower = IsTight n j (get_or tables k []) (floor_at n tables supply bundles k) (get_or bundles k []) upper lower

abbrev pub IsFirstTightOf : ℕ → List (List ℤ) → List ℤ → List (List ℤ) → ℕ → ℕ → ℕ → ℕ → Type 0
IsFirstTightOf n tables supply bundles k j upper lower = IsFirstTight n j (get_or tables k []) (floor_at n tables supply bundles k) (get_or bundles k []) upper lower

-- some pair is tight
abbrev pub HasTight : ℕ → List (List ℤ) → List ℤ → List (List ℤ) → ℕ → ℕ → Type 0
HasTight n tables supply bundles k j = (upper : ℕ) × (lower : ℕ) × IsTightOf n tables supply bundles k j upper lower

-- the bidders' tables in an order of the bidders, the seller's last
abbrev pub tables_in : List ℕ → List (List ℤ) → List ℤ → List (List ℤ)
tables_in order tables seller = in_order order tables ++ seller ∷ []
