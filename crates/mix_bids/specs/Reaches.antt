-- Over how many steps along a set of goods a list's utility falls equally: until a bid whose best set lies in the set finds a choice
-- outside it as good.
use Rattle.std.specs.Prelude.{ℕ, suc, cond, List, [], ◌∷◌, ℤ, pos, ◌-ℤ◌, None}
use Rattle.std.specs.Int.{int_min}
use Rattle.mix_num.specs.Vectors.{Vector, Choices, outside}
use Rattle.mix_bids.specs.Offers.{Offers, best, gain, within}
use Rattle.mix_bids.specs.declared.bid.Bid.{Bid}

-- the offers for the goods of a set alone
abbrev pub offers_in : Choices → Offers → Offers
offers_in s [] = []
offers_in s (o ∷ vs) = cond (s 1) o None ∷ offers_in (λ k. s (suc k)) vs

-- the greatest gain in a set. The null choice counts always: where it isn't in the set and the best set is, it leaves less than the set.
abbrev pub gain_in : Choices → Offers → Vector → ℤ
gain_in s vs x = gain (offers_in s vs) x

-- the difference between the greatest gain in a set of goods and the greatest gain outside it
abbrev pub gap : Choices → Offers → Vector → ℤ
gap s vs x = gain_in s vs x -ℤ gain_in (outside s) vs x

-- the least gap of the bids, over n goods, whose best set lies in a set of goods; 8,000,000 where there is none
abbrev pub reach_of : ℕ → Choices → List Bid → Vector → ℤ
reach_of n s [] x = pos 8000000
reach_of n s (b ∷ bs) x = int_min (cond (within (suc n) (best b.values.items x) s) (gap s b.values.items x) (pos 8000000)) (reach_of n s bs x)
