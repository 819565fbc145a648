-- Over how many steps along a set of goods the seller's function falls equally at each: until a price meets its reserve.
use Rattle.std.specs.Prelude.{ℕ, zero, suc, Bool, cond, int_lt, List, ℤ, pos, ◌-ℤ◌, length}
use Rattle.std.specs.Int.{int_min}
use Rattle.mix_num.specs.Vectors.{Vector, Choices, with_null}

-- how far a good's reserve is above its price, where the good is in the set, is for sale and has a reserve above its price; else 8,000,000
abbrev pub good_reach : Bool → ℤ → ℤ → ℤ → ℤ
good_reach within supply reserve price = cond within (cond (int_lt (pos 0) supply) (cond (int_lt price reserve) (reserve -ℤ price) (pos 8000000)) (pos 8000000)) (pos 8000000)

-- the least of the first m numbers; 8,000,000 where there is none
abbrev pub least_to : ℕ → (ℕ → ℤ) → ℤ
least_to zero f = pos 8000000
least_to (suc m) f = int_min (least_to m f) (f m)

-- the least over the goods
abbrev pub seller_reach : List ℤ → List ℤ → Vector → Choices → ℤ
seller_reach supply reserve x set = least_to (length supply) (λ k. good_reach (set (suc k)) (with_null supply (suc k)) (with_null reserve (suc k)) (x (suc k)))
