-- The null choice never leads: every bid offers it at 0, and no value lies below.
use Rattle.std.proofs.Common.{◌≡◌, ℕ, zero, suc, ◌≤◌, Bool, true, false, cond, ℤ, pos, ◌≤ℤ◌, ◌-ℤ◌, arith, refl, Option, Some, None, int_lt}
use Rattle.std.proofs.lemmas.Int.{ints}
use Rattle.std.proofs.lemmas.List.Elements.{All-get_or}
use Rattle.mix_bids.specs.Offers.{Offers, offer, AreOffers, IsOffer}
use Rattle.mix_bids.specs.declared.bid.Bid.{Bid}
use Rattle.mix_bids.specs.Leads.{lead, lead_of, negative_lead}

offer_is : (n : ℕ) (vs : Offers) (k : ℕ) → AreOffers n vs → k ≤ n → IsOffer (offer vs k)
offer_is n vs zero o l = λ v e. let q : pos 0 ≡ v = cc in (omega (arith, ints), omega (arith, ints))
offer_is n vs (suc k) o l = All-get_or IsOffer vs k None (omega (arith, o.size)) o.each

below_zero : (p : Option ℤ) (v : ℤ) → IsOffer p → lead (Some (pos 0)) p ≡ Some v → v ≤ℤ pos 0
below_zero None v h e = absurd (cc)
below_zero (Some u) v h e =
    let r = h u refl in
    let q : pos 0 -ℤ u ≡ v = cc in
    omega (arith, ints, r.0)

pub null_lead : (n : ℕ) (b : Bid) (i : ℕ) (v : ℤ) → AreOffers n b.values.items → i ≤ n → negative_lead b 0 i ≡ Some v → v ≤ℤ pos 0
null_lead n b i v o l e = at (int_lt b.weight (pos 0)) e
  where
    at : (t : Bool) → cond t (lead_of b 0 i) None ≡ Some v → v ≤ℤ pos 0
    at true q = below_zero (offer b.values.items i) v (offer_is n b.values.items i o l) q
    at false q = absurd (cc)
