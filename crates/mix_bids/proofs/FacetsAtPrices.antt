-- A facet weight moves along with all prices: each is one at whole prices of the goods, the null choice's price being 0.
use Rattle.std.proofs.Common.{◌≡◌, ℕ, zero, suc, ◌+◌, ◌≤◌, ◌<◌, Bool, cond, List, [], ◌∷◌, ℤ, pos, neg_ℤ, ◌+ℤ◌, ◌-ℤ◌, refl, arith, sym, ap, ap₂, ◌∙◌, Option, Some, None, get_or, map, length}
use Rattle.std.proofs.Math.ListN.{get_or-map}
use Rattle.std.proofs.lemmas.Int.{ints}
use Rattle.std.proofs.lemmas.List.{length-map}
use Rattle.std.proofs.lemmas.List.FromFn.{get_or-range_with_len, length-range_with_len}
use Rattle.std.specs.List.{range_with_len}
use Rattle.std.specs.Ordering.{int_eq}
use Rattle.mix_num.specs.Vectors.{Vector, Agree, shifted, with_null}
use Rattle.mix_num.proofs.Equalities.{int_eq_is}
use Rattle.mix_bids.specs.Offers.{Offers, best, gain, leaves, offer, pair, same_set}
use Rattle.mix_bids.specs.Bids.{facet_weight}
use Rattle.mix_bids.specs.declared.bid.Bid.{Bid}
use Rattle.mix_bids.proofs.Cases.{same_bool}
use Rattle.mix_bids.proofs.Gains.{gain_reads, gain_shifted}
use Rattle.mix_bids.proofs.Lengths.{AreOver, first_over, rest_over}
use Rattle.mix_bids.proofs.Sets.{same_set-intro, same_set-true}

-- what an offer leaves moves along with the gain
leaves_moved : (o : Option ℤ) (c g k : ℤ) → leaves o (c +ℤ k) (g -ℤ k) ≡ leaves o c g
leaves_moved None c g k = refl
leaves_moved (Some v) c g k = same_bool (int_eq (v -ℤ (c +ℤ k)) (g -ℤ k)) (int_eq (v -ℤ c) g)
    (λ h. let e = (int_eq_is (v -ℤ (c +ℤ k)) (g -ℤ k)).0 h in (int_eq_is (v -ℤ c) g).1 (omega (arith, ints)))
    (λ h. let e = (int_eq_is (v -ℤ c) g).0 h in (int_eq_is (v -ℤ (c +ℤ k)) (g -ℤ k)).1 (omega (arith, ints)))

-- so the best set is the same where all prices rise by k
best_moved : (n : ℕ) (vs : Offers) (x y : Vector) (k : ℤ) → length vs ≤ n → Agree n y (shifted x k) → (c : ℕ) → c < suc n → best vs y c ≡ best vs x c
best_moved n vs x y k l a c h =
    ap₂ (leaves (offer vs c)) (a c (omega arith)) (gain_reads n vs y (shifted x k) l a ∙ gain_shifted vs x k)
    ∙ leaves_moved (offer vs c) (x c) (gain vs x) k

-- and so is each facet weight
pub facet_weight_moved : (n i j : ℕ) (bs : List Bid) (x y : Vector) (k : ℤ) → AreOver n bs → Agree n y (shifted x k) → facet_weight n i j bs y ≡ facet_weight n i j bs x
facet_weight_moved n i j [] x y k o a = refl
facet_weight_moved n i j (b ∷ bs) x y k o a =
    let vs = b.values.items in
    let same = best_moved n vs x y k (omega (arith, first_over n b bs o)) a in
    let e = same_bool (same_set (suc n) (best vs y) (pair i j)) (same_set (suc n) (best vs x) (pair i j))
    (λ h. same_set-intro (suc n) (best vs x) (pair i j) (λ c l. sym (same c l) ∙ same_set-true (suc n) (best vs y) (pair i j) h c l))
    (λ h. same_set-intro (suc n) (best vs y) (pair i j) (λ c l. same c l ∙ same_set-true (suc n) (best vs x) (pair i j) h c l)) in
    ap₂ (λ (t : Bool) (r : ℤ). cond t b.weight (pos 0) +ℤ r) e (facet_weight_moved n i j bs x y k (rest_over n b bs o) a)

-- by how much the price of each good lies above the null choice's
abbrev pub prices_above : ℕ → Vector → List ℤ
prices_above n x = map (λ k. x k -ℤ x 0) (range_with_len 1 n)

pub length-prices_above : (n : ℕ) (x : Vector) → length (prices_above n x) ≡ n
length-prices_above n x = length-map (range_with_len 1 n) (λ k. x k -ℤ x 0) ∙ length-range_with_len 1 n

moved_down : (n : ℕ) (x : Vector) → Agree n (with_null (prices_above n x)) (shifted x (neg_ℤ (x 0)))
moved_down n x zero h = omega (arith, ints)
moved_down n x (suc k) h =
    let above : ℕ → ℤ = λ k. x k -ℤ x 0 in
    let null : pos 0 ≡ above 0 = omega (arith, ints) in
    let e : 1 + k ≡ suc k = omega arith in
    let d = ap (λ z. get_or (prices_above n x) k z) null ∙ get_or-map above (range_with_len 1 n) k 0 ∙ ap above (get_or-range_with_len 1 n k 0 (omega arith) ∙ e) in
    omega (arith, ints, d)

-- so the facet weight at a vector is that at the prices above the null choice's
pub facet_weight_at_prices : (n i j : ℕ) (bs : List Bid) (x : Vector) → AreOver n bs → facet_weight n i j bs (with_null (prices_above n x)) ≡ facet_weight n i j bs x
facet_weight_at_prices n i j bs x o = facet_weight_moved n i j bs x (with_null (prices_above n x)) (neg_ℤ (x 0)) o (moved_down n x)
