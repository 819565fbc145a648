-- Candidates: the coordinates of a choice that a level's grid tries.
use Rattle.std.specs.Prelude.{ℕ, cond, eqb, List, [], ◌∷◌, ◌++◌, ℤ, pos, ◌+ℤ◌, Option, Some, None, unwrap_or, option_map, filter_map}
use Rattle.std.specs.Int.{int_min}
use Rattle.mix_bids.specs.declared.bid.Bid.{Bid}
use Rattle.mix_bids.specs.Leads.{lead_of, negative_lead}

-- the lesser of two numbers, or the one that is there
abbrev pub lesser : Option ℤ → Option ℤ → Option ℤ
lesser None o = o
lesser (Some v) None = Some v
lesser (Some v) (Some u) = Some (int_min v u)

-- the least of a number and of the leads of c above i
abbrev pub least_lead : ℕ → ℕ → List Bid → Option ℤ → Option ℤ
least_lead i c [] o = o
least_lead i c (b ∷ bs) o = least_lead i c bs (lesser o (lead_of b c i))

-- one more than the lead of a bid of negative weight: from there on it is counted
abbrev pub counting_from : ℕ → ℕ → Bid → Option ℤ
counting_from i c b = option_map (λ v. v +ℤ pos 1) (negative_lead b c i)

-- the coordinate of a good at which no bid that offers it is counted
abbrev pub lowest : ℕ → ℕ → List Bid → ℤ
lowest i c bs = unwrap_or (least_lead i c bs None) (pos 0)

-- the candidates of the choice c: where bids of negative weight begin to be counted, and for a good its lowest coordinate
abbrev pub candidates : ℕ → ℕ → List Bid → List ℤ
candidates i c bs = filter_map (counting_from i c) bs ++ cond (eqb c 0) [] (lowest i c bs ∷ [])
