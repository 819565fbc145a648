-- The number of cells of a list: how many points the grids of its levels have together, over all levels of all pairs of choices.
use Rattle.std.specs.Prelude.{ℕ, zero, suc, ◌+◌, ◌-◌, ◌*◌, cond, eqb, List, ℤ, filter_map}
use Rattle.std.specs.List.{sum_by}
use Rattle.std.specs.Ordering.{int_eq}
use Rattle.std.specs.Set.{distinct_count, unique_keys}
use Rattle.mix_bids.specs.Bids.{Book}
use Rattle.mix_bids.specs.Leads.{negative_lead}
use Rattle.mix_bids.specs.Levels.{differences, level_bids, other}
use Rattle.mix_bids.specs.declared.bid.Bid.{Bid}

-- the sum and the product of what a function gives below m
unfoldable pub sum_below : ℕ → (ℕ → ℕ) → ℕ
sum_below zero f = 0
sum_below (suc m) f = sum_below m f + f m

unfoldable pub product_below : ℕ → (ℕ → ℕ) → ℕ
product_below zero f = 1
product_below (suc m) f = product_below m f * f m

-- by how much the bids of negative weight of the level of i and j at the difference d value c above i, where they offer c
abbrev pub level_leads : ℕ → ℕ → ℤ → ℕ → List Bid → List ℤ
level_leads i j d c bs = filter_map (λ b. negative_lead b c i) (level_bids i j d bs)

-- the factor of another choice at a level: how many different leads it has there, and for a good one more
unfoldable pub factor : ℕ → ℕ → ℤ → List Bid → ℕ → ℕ
factor i j d bs c = cond (eqb c 0) 0 1 + distinct_count int_eq (level_leads i j d c bs)

-- the cells of a level of i and j over n goods: the product of the factors of the n - 1 other choices
unfoldable pub level_cells : ℕ → ℕ → ℕ → List Bid → ℤ → ℕ
level_cells n i j bs d = product_below (n - 1) (λ k. factor i j d bs (other i j k))

-- the cells of all levels of i and j
unfoldable pub pair_cells : ℕ → List Bid → ℕ → ℕ → ℕ
pair_cells n bs i j = sum_by (level_cells n i j bs) (unique_keys int_eq (differences i j bs))

-- the number of cells: the sum over the pairs of choices i < j
unfoldable pub cells : Book → ℕ
cells book = sum_below (suc book.goods) (λ j. sum_below j (λ i. pair_cells book.goods book.bids i j))
