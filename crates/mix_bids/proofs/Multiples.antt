-- Values at a scale, and prices multiplied with them: the gain and the indirect utility are multiplied too.
use Rattle.std.proofs.Common.{◌≡◌, ℕ, ◌*◌, List, [], ◌∷◌, ℤ, pos, ◌+ℤ◌, ◌-ℤ◌, ◌*ℤ◌, refl, arith, sym, ap, ap₂, ◌∙◌, Option, Some, None, option_map, get_or, map, length}
use Rattle.std.proofs.Math.ListN.{get_or-map}
use Rattle.std.proofs.lemmas.Int.{ints}
use Rattle.std.proofs.lemmas.List.{length-map}
use Rattle.std.proofs.lemmas.List.Elements.{All-map, All-weaker}
use Rattle.mix_num.specs.Vectors.{Vector}
use Rattle.mix_num.proofs.Products.{*ℤ-difference, *ℤ-multiple, *ℤ-sum, multiple-multiple, product_grows}
use Rattle.mix_bids.specs.Offers.{Offers, offer, gain}
use Rattle.mix_bids.specs.Bids.{total_weight, utility}
use Rattle.mix_bids.specs.Convexity.{bid_at, offers_at, utility_at}
use Rattle.mix_bids.specs.declared.bid.Bid.{Bid}
use Rattle.mix_bids.proofs.Gains.{IsGain, gain_is, gain_one}
use Rattle.mix_bids.proofs.Lengths.{AreOver}

-- prices multiplied by e
abbrev pub times : ℕ → Vector → Vector
times e x = λ k. pos e *ℤ x k

pub length-offers_at : (d : ℕ) (vs : Offers) → length (offers_at d vs) ≡ length vs
length-offers_at d vs = length-map vs (option_map (λ v. pos d *ℤ v))

-- the null choice's 0 stays 0
offer-offers_at : (d : ℕ) (vs : Offers) (k : ℕ) → offer (offers_at d vs) k ≡ option_map (λ v. pos d *ℤ v) (offer vs k)
offer-offers_at d vs k =
    let nothing : pos 0 ≡ pos d *ℤ pos 0 = omega (arith, ints) in
    ap (λ z. get_or (Some z ∷ offers_at d vs) k None) nothing ∙ get_or-map (option_map (λ v. pos d *ℤ v)) (Some (pos 0) ∷ vs) k None

-- what is offered once is offered at each scale
pub offered_at : (d : ℕ) (vs : Offers) (k : ℕ) (v : ℤ) → offer vs k ≡ Some v → offer (offers_at d vs) k ≡ Some (pos d *ℤ v)
offered_at d vs k v e = offer-offers_at d vs k ∙ ap (option_map (λ v. pos d *ℤ v)) e

-- what is offered at a scale is a multiple of what is offered
pub record IsMultiple (d : ℕ) (o : Option ℤ) (w : ℤ) : Type 0 where
  pub value : ℤ
  pub offered : o ≡ Some value
  pub is : w ≡ pos d *ℤ value

multiple_of : (d : ℕ) (o : Option ℤ) (w : ℤ) → option_map (λ v. pos d *ℤ v) o ≡ Some w → IsMultiple d o w
multiple_of d None w e = absurd (cc)
multiple_of d (Some v) w e = record { value = v; offered = refl; is = let q : pos d *ℤ v ≡ w = cc in sym q }

pub offered_once : (d : ℕ) (vs : Offers) (k : ℕ) (w : ℤ) → offer (offers_at d vs) k ≡ Some w → IsMultiple d (offer vs k) w
offered_once d vs k w e = multiple_of d (offer vs k) w (sym (offer-offers_at d vs k) ∙ e)

-- bids at a scale are over the same goods, and have the same total
pub over_at : (n d : ℕ) (bs : List Bid) → AreOver n bs → AreOver n (map (bid_at d) bs)
over_at n d bs o = All-map (λ b. length b.values.items ≡ n) (bid_at d) bs (All-weaker (λ b. length b.values.items ≡ n) (λ b. length (bid_at d b).values.items ≡ n) (λ b e. length-offers_at d b.values.items ∙ e) bs o)

pub total_at : (d : ℕ) (bs : List Bid) → total_weight (map (bid_at d) bs) ≡ total_weight bs
total_at d [] = refl
total_at d (b ∷ bs) = ap (λ z. b.weight +ℤ z) (total_at d bs)

multiplied_gain : (e d : ℕ) (vs : Offers) (x : Vector) → IsGain (offers_at (e * d) vs) (times e x) (pos e *ℤ gain (offers_at d vs) x)
multiplied_gain e d vs x =
    let r = gain_is (offers_at d vs) x in
    let best = offered_once d vs r.place r.value r.offered in
    record {
      upper = λ k w o.
          let v = offered_once (e * d) vs k w o in
          let h = r.upper k (pos d *ℤ v.value) (offered_at d vs k v.value v.offered) in
          let g = product_grows (pos e) ((pos d *ℤ v.value) -ℤ x k) (gain (offers_at d vs) x) (omega (arith, ints)) h in
          let q = *ℤ-difference (pos e) (pos d *ℤ v.value) (x k) in
          let m = multiple-multiple e d v.value in
          let i = v.is in
          omega (arith, ints);
      place = r.place;
      value = pos (e * d) *ℤ best.value;
      offered = offered_at (e * d) vs r.place best.value best.offered;
      reached =
          ap (λ z. z -ℤ (pos e *ℤ x r.place)) (multiple-multiple e d best.value)
          ∙ sym (*ℤ-difference (pos e) (pos d *ℤ best.value) (x r.place))
          ∙ ap (λ z. pos e *ℤ (z -ℤ x r.place)) (sym best.is)
          ∙ ap (λ z. pos e *ℤ z) r.reached;
    }

-- where prices and scale are e times as great, so is the gain
pub gain-times : (e d : ℕ) (vs : Offers) (x : Vector) → gain (offers_at (e * d) vs) (times e x) ≡ pos e *ℤ gain (offers_at d vs) x
gain-times e d vs x = gain_one (offers_at (e * d) vs) (times e x) _ _ (gain_is _ _) (multiplied_gain e d vs x)

pub utility-times : (e d : ℕ) (bs : List Bid) (x : Vector) → utility_at bs (e * d) (times e x) ≡ pos e *ℤ utility_at bs d x
utility-times e d [] x = omega (arith, ints)
utility-times e d (b ∷ bs) x =
    let g = ap (λ z. b.weight *ℤ z) (gain-times e d b.values.items x) ∙ *ℤ-multiple b.weight e (gain (offers_at d b.values.items) x) in
    let s = *ℤ-sum (pos e) (b.weight *ℤ gain (offers_at d b.values.items) x) (utility_at bs d x) in
    ap₂ (λ u v. u +ℤ v) g (utility-times e d bs x) ∙ sym s

pub offers_once : (vs : Offers) → offers_at 1 vs ≡ vs
offers_once [] = refl
offers_once (None ∷ vs) = ap (λ z. None ∷ z) (offers_once vs)
offers_once (Some v ∷ vs) = let e : pos 1 *ℤ v ≡ v = omega (arith, ints) in ap₂ (λ y z. Some y ∷ z) e (offers_once vs)

-- at the scale 1 it is the indirect utility
pub utility_once : (bs : List Bid) (x : Vector) → utility_at bs 1 x ≡ utility bs x
utility_once [] x = refl
utility_once (b ∷ bs) x = ap₂ (λ y z. (b.weight *ℤ gain y x) +ℤ z) (offers_once b.values.items) (utility_once bs x)
