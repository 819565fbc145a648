-- Which bids of a level count at a point: those that like no other choice as much. For proofs; no public clause rests on it.
use Rattle.std.specs.Prelude.{ℕ, suc, Bool, true, cond, List, ℤ, Option, Some, None, int_lt}
use Rattle.mix_num.specs.Vectors.{Vector, Choices}
use Rattle.mix_bids.specs.Bids.{weight_where}
use Rattle.mix_bids.specs.Offers.{all_to, pair}
use Rattle.mix_bids.specs.declared.bid.Bid.{Bid}
use Rattle.mix_bids.specs.Leads.{lead_of}

-- whether a lead, where there is one, lies below u
abbrev pub is_below : Option ℤ → ℤ → Bool
is_below None u = true
is_below (Some v) u = int_lt v u

-- the choices, i and j among them, that a bid leaves out or values above i by less than the coordinates u
abbrev pub stays_below : ℕ → ℕ → Vector → Bid → Choices
stays_below i j u b = λ c. cond (pair i j c) true (is_below (lead_of b c i) (u c))

-- whether a bid that is torn between i and j likes no other choice as much
abbrev pub is_counted : ℕ → ℕ → ℕ → Vector → Bid → Bool
is_counted n i j u b = all_to (suc n) (stays_below i j u b)

-- the weight of the bids that are counted
abbrev pub weight_counted : ℕ → ℕ → ℕ → List Bid → Vector → ℤ
weight_counted n i j bs u = weight_where (is_counted n i j u) bs
