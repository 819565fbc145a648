-- The local difference of a list's indirect utility is its facet weight.
use Rattle.std.proofs.Common.{◌≡◌, ◌≢◌, ℕ, suc, ◌≤◌, true, false, cond, eqb, List, [], ◌∷◌, ℤ, ◌+ℤ◌, ◌*ℤ◌, arith, sym, ap, ap₂, ◌∙◌, length}
use Rattle.std.proofs.lemmas.Int.{ints}
use Rattle.std.proofs.lemmas.Bool.Decides.{nat_tests}
use mathlib.Core.Path.{fun_ext}
use Rattle.mix_num.specs.Vectors.{Vector, bit, plus, only}
use Rattle.mix_bids.specs.Offers.{Offers, gain, best, same_set, pair}
use Rattle.mix_bids.specs.Bids.{utility, facet_weight}
use Rattle.mix_bids.specs.declared.bid.Bid.{Bid}
use Rattle.mix_bids.proofs.Cases.{by_test}
use Rattle.mix_num.proofs.Products.{*ℤ-sum}
use Rattle.mix_bids.proofs.Products.{times_bit}
use Rattle.mix_bids.proofs.Pairs.{pair_count}
use Rattle.mix_bids.proofs.BestChoices.{some_best}
use Rattle.mix_bids.proofs.Falls.{gain_falls}
use Rattle.mix_bids.proofs.Lengths.{AreOver, first_over, rest_over}

pair_at : (i j k : ℕ) → i ≢ j → (a : ℤ) → (a +ℤ bit (eqb k i)) +ℤ bit (eqb k j) ≡ a +ℤ bit (cond (eqb k i) true (eqb k j))
pair_at i j k d a = by_test (eqb k i)
    (λ e. let f : eqb k j ≡ false = grind (arith, nat_tests) in
    ap₂ (λ u v. (a +ℤ bit u) +ℤ bit v) e f ∙ (omega (arith, ints) ∙ ap (λ u. a +ℤ bit (cond u true (eqb k j))) (sym e)))
    (λ e. ap (λ u. (a +ℤ bit u) +ℤ bit (eqb k j)) e ∙ (omega (arith, ints) ∙ ap (λ u. a +ℤ bit (cond u true (eqb k j))) (sym e)))

-- two choices raised one after the other
pub plus_two : (x : Vector) (i j : ℕ) → i ≢ j → plus (plus x (only i)) (only j) ≡ plus x (pair i j)
plus_two x i j d = fun_ext (λ k. pair_at i j k d (x k))

-- the local difference of a gain is one where the best set is exactly the two choices, and else nothing
pub local_gain : (n : ℕ) (vs : Offers) (x : Vector) (i j : ℕ) → length vs ≤ n → i ≤ n → j ≤ n → i ≢ j → gain vs (plus x (only i)) +ℤ gain vs (plus x (only j)) ≡ (gain vs x +ℤ gain vs (plus (plus x (only i)) (only j))) +ℤ bit (same_set (suc n) (best vs x) (pair i j))
local_gain n vs x i j l p q d =
    let a = gain_falls n vs x (only i) l in
    let b = gain_falls n vs x (only j) l in
    let c = gain_falls n vs x (pair i j) l in
    let e = ap (gain vs) (plus_two x i j d) in
    let r = some_best vs x in
    let f = pair_count (suc n) (best vs x) i j r.0 d (omega arith) (omega arith) (omega (arith, r.1)) r.2 in
    omega (arith, ints)

weighed : (w a b c d e : ℤ) → a +ℤ b ≡ (c +ℤ d) +ℤ e → (w *ℤ a) +ℤ (w *ℤ b) ≡ ((w *ℤ c) +ℤ (w *ℤ d)) +ℤ (w *ℤ e)
weighed w a b c d e h =
    let p = *ℤ-sum w a b in
    let q = *ℤ-sum w (c +ℤ d) e in
    let r = *ℤ-sum w c d in
    let s = ap (λ z. w *ℤ z) h in
    omega (arith, ints)

pub local_utility : (n : ℕ) (bs : List Bid) (x : Vector) (i j : ℕ) → AreOver n bs → i ≤ n → j ≤ n → i ≢ j → utility bs (plus x (only i)) +ℤ utility bs (plus x (only j)) ≡ (utility bs x +ℤ utility bs (plus (plus x (only i)) (only j))) +ℤ facet_weight n i j bs x
local_utility n [] x i j o p q d = omega (arith, ints)
local_utility n (b ∷ bs) x i j o p q d =
    let h = local_utility n bs x i j (rest_over n b bs o) p q d in
    let l : length b.values.items ≤ n = omega (arith, first_over n b bs o) in
    let g = local_gain n b.values.items x i j l p q d in
    let e = weighed b.weight (gain b.values.items (plus x (only i))) (gain b.values.items (plus x (only j))) (gain b.values.items x) (gain b.values.items (plus (plus x (only i)) (only j))) (bit (same_set (suc n) (best b.values.items x) (pair i j))) g in
    let r = times_bit b.weight (same_set (suc n) (best b.values.items x) (pair i j)) in
    omega (arith, ints)
