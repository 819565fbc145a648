-- The first pair of the differences of two lists' weights has the first value vector whose weights differ.
use Rattle.std.proofs.Common.{◌≡◌, ◌≢◌, ℕ, ℤ, pos, ◌-ℤ◌, List, [], ◌∷◌, arith, sym, ◌∙◌, ◌⊎◌, inl, inr, subst, Some, slice_get}
use Rattle.std.proofs.lemmas.Int.{ints}
use Rattle.std.proofs.lemmas.List.Elements.{All-head}
use Rattle.mix_bids.specs.Offers.{AreOffers, Offers}
use Rattle.mix_bids.specs.Bids.{AreBids}
use Rattle.mix_bids.specs.declared.bid.Bid.{Bid}
use Rattle.mix_canon.specs.declared.term.Term.{Term}
use Rattle.mix_canon.specs.Canons.{ArePairsOf, weight_of}
use Rattle.mix_canon.specs.Searches.{IsFirstVector}
use Rattle.mix_canon.proofs.Canonicals.{gathered_terms, pair_weight, weighted_terms}
use Rattle.mix_canon.proofs.Gatherings.{absent, below_all}
use Rattle.mix_canon.proofs.Readings.{offers_or_nothing}

-- what a vector weighs in the first list, less what it weighs in the second
abbrev pub difference : List Bid → List Bid → Offers → ℤ
difference bs cs v = weight_of v bs -ℤ weight_of v cs

apart : (bs cs : List Bid) (t : Term) (ts : List Term) → ArePairsOf (difference bs cs) (t ∷ ts) → weight_of t.values.items bs ≢ weight_of t.values.items cs
apart bs cs t ts is e =
    let w = All-head (λ t. t.weight ≡ difference bs cs t.values.items) t ts is.weights in
    All-head (λ t. t.weight ≢ pos 0) t ts is.some (omega (arith, ints))

pair_first : (bs cs : List Bid) (t : Term) (ts : List Term) → ArePairsOf (difference bs cs) (t ∷ ts) → IsFirstVector bs cs t.values.items
pair_first bs cs t ts is = record {
  apart = apart bs cs t ts is;
  before = λ u l.
      let g = gathered_terms (t ∷ ts) is.order is.some in
      let z = absent u (weighted_terms (t ∷ ts)) (l, below_all u t.values.items (weighted_terms ts) l g.0) in
      let e = pair_weight (difference bs cs) (t ∷ ts) is u in
      omega (arith, ints);
}

pub first_pair : (bs cs : List Bid) (ds : List Term) (t : Term) → Some t ≡ slice_get ds 0 → ArePairsOf (difference bs cs) ds → IsFirstVector bs cs t.values.items
first_pair bs cs [] t e is = absurd (cc)
first_pair bs cs (d ∷ ds) t e is = let q : d ≡ t = cc in subst (λ (u : Term). IsFirstVector bs cs u.values.items) q (pair_first bs cs d ds is)

-- that vector is a bid's
pub first_offers : (n : ℕ) (bs cs : List Bid) (v : Offers) → AreBids n bs → AreBids n cs → IsFirstVector bs cs v → AreOffers n v
first_offers n bs cs v bare care is = at (offers_or_nothing n v bs bare) (offers_or_nothing n v cs care)
  where
    at : AreOffers n v ⊎ (weight_of v bs ≡ pos 0) → AreOffers n v ⊎ (weight_of v cs ≡ pos 0) → AreOffers n v
    at (inl a) d = a
    at (inr e) (inl a) = a
    at (inr e) (inr f) = absurd (is.apart (e ∙ sym f))
