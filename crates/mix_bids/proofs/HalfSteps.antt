-- Half way between prices and the same prices with a set raised by one: there the indirect utility is the mean of the two.
use Rattle.std.proofs.Common.{◌≡◌, ℕ, suc, ◌*◌, ◌≤◌, true, List, [], ◌∷◌, ℤ, pos, ◌+ℤ◌, ◌-ℤ◌, ◌*ℤ◌, arith, sym, ap, ◌∙◌, Some, length}
use Rattle.std.proofs.lemmas.Int.{ints}
use Rattle.mix_num.specs.Vectors.{Vector, Choices, bit, plus}
use Rattle.mix_num.proofs.Products.{*ℤ-sum}
use Rattle.mix_bids.specs.Offers.{Offers, offer, gain, best, within}
use Rattle.mix_bids.specs.Convexity.{offers_at, utility_at}
use Rattle.mix_bids.specs.declared.bid.Bid.{Bid}
use Rattle.mix_bids.proofs.Cases.{by_test}
use Rattle.mix_bids.proofs.Sets.{within-true, within-false}
use Rattle.mix_bids.proofs.Gains.{IsGain, gain_is, gain_one}
use Rattle.mix_bids.proofs.BestChoices.{leaves-true, some_best}
use Rattle.mix_bids.proofs.Falls.{gain_falls}
use Rattle.mix_bids.proofs.Lengths.{AreOver, first_over, rest_over}
use Rattle.mix_bids.proofs.Multiples.{length-offers_at, offered_at, offered_once}

-- a choice that leaves the gain at both prices
record IsBestAtBoth (vs : Offers) (x y : Vector) : Type 0 where
  pub place : ℕ
  pub value : ℤ
  pub offered : offer vs place ≡ Some value
  pub first : value -ℤ x place ≡ gain vs x
  pub second : value -ℤ y place ≡ gain vs y

best_at_both : (n : ℕ) (vs : Offers) (x : Vector) (s : Choices) → length vs ≤ n → (k : ℕ) → best vs x k ≡ true → s k ≡ within (suc n) (best vs x) s → IsBestAtBoth vs x (plus x s)
best_at_both n vs x s l k is same =
    let b = leaves-true (offer vs k) (x k) (gain vs x) is in
    let fell = gain_falls n vs x s l in
    let moved = ap bit same in
    let left = b.leaves in
    record { place = k; value = b.value; offered = b.offered; first = b.leaves; second = omega (arith, ints) }

-- some best choice stays one where a set is raised: one outside the set, if there is one, else any
still_best : (n : ℕ) (vs : Offers) (x : Vector) (s : Choices) → length vs ≤ n → IsBestAtBoth vs x (plus x s)
still_best n vs x s l = by_test (within (suc n) (best vs x) s)
    (λ h. let r = some_best vs x in best_at_both n vs x s l r.0 r.2 (within-true (suc n) (best vs x) s h r.0 (omega (arith, r.1)) r.2 ∙ sym h))
    (λ h. let r = within-false (suc n) (best vs x) s h in best_at_both n vs x s l r.0 r.2 (r.3 ∙ sym h))

double : (d : ℕ) (v : ℤ) → pos (2 * d) *ℤ v ≡ (pos d *ℤ v) +ℤ (pos d *ℤ v)
double d v = omega (arith, ints)

-- where a choice is best at both prices, what it leaves half way between them is the gain there
halfway_gain : (d : ℕ) (vs : Offers) (x y : Vector) → IsBestAtBoth (offers_at d vs) x y → IsGain (offers_at (2 * d) vs) (λ k. x k +ℤ y k) (gain (offers_at d vs) x +ℤ gain (offers_at d vs) y)
halfway_gain d vs x y both =
    let b = offered_once d vs both.place both.value both.offered in
    record {
      upper = λ k w o.
          let v = offered_once (2 * d) vs k w o in
          let u = offered_at d vs k v.value v.offered in
          let p = (gain_is (offers_at d vs) x).upper k (pos d *ℤ v.value) u in
          let q = (gain_is (offers_at d vs) y).upper k (pos d *ℤ v.value) u in
          let t = double d v.value in
          let i = v.is in
          omega (arith, ints);
      place = both.place;
      value = pos (2 * d) *ℤ b.value;
      offered = offered_at (2 * d) vs both.place b.value b.offered;
      reached =
          let t = double d b.value in
          let i = b.is in
          let p = both.first in
          let q = both.second in
          omega (arith, ints);
    }

gain_halfway : (n d : ℕ) (vs : Offers) (x : Vector) (s : Choices) → length vs ≤ n → gain (offers_at (2 * d) vs) (λ k. x k +ℤ plus x s k) ≡ gain (offers_at d vs) x +ℤ gain (offers_at d vs) (plus x s)
gain_halfway n d vs x s l =
    let us = offers_at d vs in
    gain_one (offers_at (2 * d) vs) (λ k. x k +ℤ plus x s k) _ _ (gain_is _ _) (halfway_gain d vs x (plus x s) (still_best n us x s (omega (arith, length-offers_at d vs))))

pub utility_halfway : (n d : ℕ) (bs : List Bid) (x : Vector) (s : Choices) → AreOver n bs → utility_at bs (2 * d) (λ k. x k +ℤ plus x s k) ≡ utility_at bs d x +ℤ utility_at bs d (plus x s)
utility_halfway n d [] x s o = omega (arith, ints)
utility_halfway n d (b ∷ bs) x s o =
    let l : length b.values.items ≤ n = omega (arith, first_over n b bs o) in
    let us = offers_at d b.values.items in
    let g = ap (λ z. b.weight *ℤ z) (gain_halfway n d b.values.items x s l) in
    let e = *ℤ-sum b.weight (gain us x) (gain us (plus x s)) in
    let h = utility_halfway n d bs x s (rest_over n b bs o) in
    omega (arith, ints)
