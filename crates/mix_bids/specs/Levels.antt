-- Levels: the differences at which the bids of negative weight are torn between two choices, the bids that are torn there, and the other choices.
use Rattle.std.specs.Prelude.{ℕ, suc, Bool, false, cond, ltb, List, ℤ, Option, Some, None, filter, filter_map}
use Rattle.std.specs.Ordering.{int_eq}
use Rattle.mix_bids.specs.Leads.{lead_of, negative_lead}
use Rattle.mix_bids.specs.declared.bid.Bid.{Bid}

-- whether a lead is there and is d
abbrev pub is_lead : Option ℤ → ℤ → Bool
is_lead None d = false
is_lead (Some v) d = int_eq v d

-- whether a bid offers i and j and values i above j by d
abbrev pub has_lead : ℕ → ℕ → ℤ → Bid → Bool
has_lead i j d b = is_lead (lead_of b i j) d

-- the bids of a level of i and j: those with the difference d
abbrev pub level_bids : ℕ → ℕ → ℤ → List Bid → List Bid
level_bids i j d bs = filter (has_lead i j d) bs

-- the differences of i and j that bids of negative weight have
abbrev pub differences : ℕ → ℕ → List Bid → List ℤ
differences i j bs = filter_map (λ b. negative_lead b i j) bs

-- the choice at place k among those other than i and j
abbrev pub other : ℕ → ℕ → ℕ → ℕ
other i j k = cond (ltb k i) k (cond (ltb (suc k) j) (suc k) (suc (suc k)))
