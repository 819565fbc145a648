-- Goods that are all cheaper than the null choice: every bid prefers one of its goods, so the null choice may rise and nothing changes.
use Rattle.std.proofs.Common.{◌≡◌, ℕ, suc, ◌≤◌, true, false, List, [], ◌∷◌, ℤ, pos, ◌+ℤ◌, ◌*ℤ◌, ◌<ℤ◌, refl, arith, sym, ap, ap₂, ◌∙◌, Some, None, get_or, length}
use Rattle.std.proofs.lemmas.Int.{ints}
use Rattle.std.proofs.lemmas.Bool.{false≢true}
use Rattle.std.proofs.lemmas.List.Elements.{All-get_or, All-head, All-tail}
use Rattle.mix_num.specs.Vectors.{Vector, bit, plus, only}
use Rattle.mix_bids.specs.Offers.{Offers, offers_some, gain, best, within, AreOffers, IsOffer}
use Rattle.mix_bids.specs.Bids.{utility, AreBids, IsBid}
use Rattle.mix_bids.specs.declared.bid.Bid.{Bid}
use Rattle.mix_bids.proofs.Cases.{not_true}
use Rattle.mix_bids.proofs.Sets.{within-true}
use Rattle.mix_bids.proofs.Pairs.{only-true}
use Rattle.mix_bids.proofs.Gains.{gain_is, offered_within}
use Rattle.mix_bids.proofs.BestChoices.{leaves-true, some_best}
use Rattle.mix_bids.proofs.Falls.{gain_falls}

-- a good that is offered
record Offered (vs : Offers) : Type 0 where
  pub place : ℕ
  pub value : ℤ
  pub is : get_or vs place None ≡ Some value

some_offered : (vs : Offers) → offers_some vs ≡ true → Offered vs
some_offered [] h = absurd (false≢true h)
some_offered (None ∷ vs) h = let r = some_offered vs h in record { place = suc r.place; value = r.value; is = r.is }
some_offered (Some v ∷ vs) h = record { place = 0; value = v; is = refl }

not_nothing : (n : ℕ) (vs : Offers) (x : Vector) → AreOffers n vs → ((i : ℕ) → 1 ≤ i → i ≤ n → x i <ℤ x 0) → within (suc n) (best vs x) (only 0) ≡ false
not_nothing n vs x a h = not_true _ (λ t.
    let r = some_best vs x in
    let l = a.size in
    let q = only-true 0 r.0 (within-true (suc n) (best vs x) (only 0) t r.0 (omega (arith, r.1)) r.2) in
    let b = leaves-true (Some (pos 0)) (x 0) (gain vs x) (ap (best vs x) (sym q) ∙ r.2) in
    let z : pos 0 ≡ b.value = let e = b.offered in cc in
    let e = b.leaves in
    let o = some_offered vs a.some in
    let i = suc o.place in
    let s = offered_within vs i o.value o.is in
    let u = (gain_is vs x).upper i o.value o.is in
    let v = All-get_or IsOffer vs o.place None (omega arith) a.each o.value o.is in
    let c = h i (omega arith) (omega arith) in
    absurd (omega (arith, ints)))

pub utility_near : (n : ℕ) (bs : List Bid) (x : Vector) → AreBids n bs → ((i : ℕ) → 1 ≤ i → i ≤ n → x i <ℤ x 0) → utility bs (plus x (only 0)) ≡ utility bs x
utility_near n [] x a h = refl
utility_near n (b ∷ bs) x a h =
    let i = All-head (IsBid n) b bs a in
    let l : length b.values.items ≤ n = omega (arith, i.offers.size) in
    let f = gain_falls n b.values.items x (only 0) l in
    let e = ap bit (not_nothing n b.values.items x i.offers h) in
    let g : gain b.values.items (plus x (only 0)) ≡ gain b.values.items x = omega (arith, ints) in
    ap₂ (λ u v. (b.weight *ℤ u) +ℤ v) g (utility_near n bs x (All-tail (IsBid n) b bs a) h)
