-- By how much a bid values one choice above another.
use Rattle.std.specs.Prelude.{ℕ, cond, ℤ, pos, ◌-ℤ◌, Option, Some, None, int_lt}
use Rattle.mix_bids.specs.Offers.{offer}
use Rattle.mix_bids.specs.declared.bid.Bid.{Bid}

-- one offer less another, where both are made
abbrev pub lead : Option ℤ → Option ℤ → Option ℤ
lead None o = None
lead (Some v) None = None
lead (Some v) (Some u) = Some (v -ℤ u)

-- by how much a bid values the choice c above i, if it offers both
abbrev pub lead_of : Bid → ℕ → ℕ → Option ℤ
lead_of b c i = lead (offer b.values.items c) (offer b.values.items i)

-- the same for a bid of negative weight, and none for any other
abbrev pub negative_lead : Bid → ℕ → ℕ → Option ℤ
negative_lead b c i = cond (int_lt b.weight (pos 0)) (lead_of b c i) None
