-- Lists of bids: their indirect utility, their total, and the weights of the bids whose best sets pass a test.
use Rattle.std.specs.Prelude.{◌≡◌, ◌≢◌, ℕ, suc, ◌<◌, ◌≤◌, Bool, cond, List, [], ◌∷◌, ℤ, pos, ◌+ℤ◌, ◌*ℤ◌, ◌≤ℤ◌, length, All}
use Rattle.mix_num.specs.Vectors.{Vector, Choices, members, with_null}
use Rattle.mix_num.specs.Ranges.{Lies}
use Rattle.mix_bids.specs.Offers.{AreOffers, best, better, gain, meets, offer, pair, same_set, within}
use Rattle.mix_bids.specs.declared.bid.Bid.{Bid}

-- what contracts see of a list of bids
pub record Book : Type 0 where
  pub goods : ℕ
  pub bids : List Bid

-- a bid over n goods
pub record IsBid (n : ℕ) (b : Bid) : Type 0 where
  pub offers : AreOffers n b.values.items
  pub weight : Lies 10000 b.weight
  pub some : b.weight ≢ pos 0

-- bids over the same n goods
abbrev pub AreBids : ℕ → List Bid → Type 0
AreBids n bs = All (IsBid n) bs

-- the indirect utility: the sum of weight times gain
abbrev pub utility : List Bid → Vector → ℤ
utility [] x = pos 0
utility (b ∷ bs) x = (b.weight *ℤ gain b.values.items x) +ℤ utility bs x

-- the total: the sum of the weights
abbrev pub total_weight : List Bid → ℤ
total_weight [] = pos 0
total_weight (b ∷ bs) = b.weight +ℤ total_weight bs

-- the sum of the weights of the bids that pass a test
abbrev pub weight_where : (Bid → Bool) → List Bid → ℤ
weight_where p [] = pos 0
weight_where p (b ∷ bs) = cond (p b) b.weight (pos 0) +ℤ weight_where p bs

-- the facet weight of i and j: the weight of the bids, over n goods, whose best set is exactly these two
abbrev pub facet_weight : ℕ → ℕ → ℕ → List Bid → Vector → ℤ
facet_weight n i j bs x = weight_where (λ b. same_set (suc n) (best b.values.items x) (pair i j)) bs

-- the best weight of a set, by its number: the weight of the bids whose best set, of the choices 0 to 8, is exactly this one
abbrev pub best_weight : List Bid → Vector → ℕ → ℤ
best_weight bs x set = weight_where (λ b. same_set 9 (best b.values.items x) (members set)) bs

-- the weight of the bids, over n goods, whose best set lies in the set s
abbrev pub weight_within : ℕ → Choices → List Bid → Vector → ℤ
weight_within n s bs x = weight_where (λ b. within (suc n) (best b.values.items x) s) bs

-- the weight of the bids, over n goods, whose best set meets the set s
abbrev pub weight_meeting : ℕ → Choices → List Bid → Vector → ℤ
weight_meeting n s bs x = weight_where (λ b. meets (suc n) (best b.values.items x) s) bs

-- the greatest value that a bid offers for a choice, or 0
abbrev pub top_value : List Bid → ℕ → ℤ
top_value [] i = pos 0
top_value (b ∷ bs) i = better (offer b.values.items i) (pos 0) (top_value bs i)

-- no facet weight of two choices is negative at any whole prices of the goods
abbrev pub NoneNegative : ℕ → List Bid → Type 0
NoneNegative n bs = (i j : ℕ) → i < j → j ≤ n → (p : List ℤ) → length p ≡ n → pos 0 ≤ℤ facet_weight n i j bs (with_null p)
