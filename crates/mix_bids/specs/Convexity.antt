-- Convexity of an indirect utility over all rational prices. Whole prices x at a scale d stand for the rational prices x / d.
use Rattle.std.specs.Prelude.{◌≡◌, ℕ, ◌*◌, ◌≤◌, List, map, ℤ, pos, ◌+ℤ◌, ◌*ℤ◌, ◌≤ℤ◌, option_map}
use Rattle.mix_num.specs.Vectors.{Vector}
use Rattle.mix_bids.specs.Offers.{Offers}
use Rattle.mix_bids.specs.Bids.{utility}
use Rattle.mix_bids.specs.declared.bid.Bid.{Bid}

-- what is offered at a scale d: each value d times as high
abbrev pub offers_at : ℕ → Offers → Offers
offers_at d vs = map (option_map (λ v. pos d *ℤ v)) vs

-- a bid at a scale
abbrev pub bid_at : ℕ → Bid → Bid
bid_at d b = record { weight = b.weight; values = record { items = offers_at d b.values.items } }

-- the indirect utility at a scale d: d times what it is at the prices x / d
abbrev pub utility_at : List Bid → ℕ → Vector → ℤ
utility_at bs d = utility (map (bid_at d) bs)

-- a function that is given at each scale is convex over all rational prices: half way between x / d and y / d, which is x + y at
-- the scale 2 d, it is at most the mean of what it is at these two. The null choice's price is 0.
pub record IsConvexAtScales (f : ℕ → Vector → ℤ) : Type 0 where
  pub halfway : (d : ℕ) → 1 ≤ d → (x y : Vector) → x 0 ≡ pos 0 → y 0 ≡ pos 0 → f (2 * d) (λ k. x k +ℤ y k) ≤ℤ (f d x +ℤ f d y)

-- a list of bids is convex where its indirect utility is
abbrev pub IsConvexList : List Bid → Type 0
IsConvexList bs = IsConvexAtScales (utility_at bs)
