-- How a list's indirect utility moves with the prices: what it reads, how it shifts, falls and rises, each told by weights of its bids.
use Rattle.std.proofs.Common.{◌≡◌, ℕ, suc, ◌≤◌, List, [], ◌∷◌, ℤ, pos, ◌+ℤ◌, ◌-ℤ◌, ◌*ℤ◌, refl, arith, ap, ap₂, length}
use Rattle.std.proofs.lemmas.Int.{ints}
use lib.IntN.{*ℤ_comm}
use Rattle.mix_num.specs.Vectors.{Vector, Choices, bit, plus, minus, shifted, Agree}
use Rattle.mix_bids.specs.Offers.{gain, best, within, meets}
use Rattle.mix_bids.specs.Bids.{utility, total_weight, weight_within, weight_meeting}
use Rattle.mix_bids.specs.declared.bid.Bid.{Bid}
use Rattle.mix_num.proofs.Products.{*ℤ-sum, *ℤ-difference}
use Rattle.mix_bids.proofs.Products.{times_bit}
use Rattle.mix_bids.proofs.Gains.{gain_shifted, gain_reads}
use Rattle.mix_bids.proofs.Falls.{gain_falls, gain_rises}
use Rattle.mix_bids.proofs.Lengths.{AreOver, first_over, rest_over}

-- the utility reads the prices of the choices alone
pub utility_reads : (n : ℕ) (bs : List Bid) (x y : Vector) → AreOver n bs → Agree n x y → utility bs x ≡ utility bs y
utility_reads n [] x y o a = refl
utility_reads n (b ∷ bs) x y o a =
    let l : length b.values.items ≤ n = omega (arith, first_over n b bs o) in
    ap₂ (λ u v. (b.weight *ℤ u) +ℤ v) (gain_reads n b.values.items x y l a) (utility_reads n bs x y (rest_over n b bs o) a)

-- where every price rises by k the utility falls by k times the total
pub utility_shifted : (bs : List Bid) (x : Vector) (k : ℤ) → utility bs (shifted x k) ≡ utility bs x -ℤ (k *ℤ total_weight bs)
utility_shifted [] x k = omega (arith, ints, *ℤ_comm k (pos 0))
utility_shifted (b ∷ bs) x k =
    let h = utility_shifted bs x k in
    let g = ap (λ z. b.weight *ℤ z) (gain_shifted b.values.items x k) in
    let e = *ℤ-difference b.weight (gain b.values.items x) k in
    let c = *ℤ_comm b.weight k in
    let d = *ℤ-sum k b.weight (total_weight bs) in
    omega (arith, ints)

-- where the prices of a set rise by one the utility falls by the weight of the bids whose best set lies in it
pub utility_falls : (n : ℕ) (bs : List Bid) (x : Vector) (s : Choices) → AreOver n bs → utility bs x ≡ utility bs (plus x s) +ℤ weight_within n s bs x
utility_falls n [] x s o = omega (arith, ints)
utility_falls n (b ∷ bs) x s o =
    let l : length b.values.items ≤ n = omega (arith, first_over n b bs o) in
    let g = ap (λ z. b.weight *ℤ z) (gain_falls n b.values.items x s l) in
    let e = *ℤ-sum b.weight (gain b.values.items (plus x s)) (bit (within (suc n) (best b.values.items x) s)) in
    let r = times_bit b.weight (within (suc n) (best b.values.items x) s) in
    let h = utility_falls n bs x s (rest_over n b bs o) in
    omega (arith, ints)

-- where the prices of a set fall by one the utility rises by the weight of the bids whose best set meets it
pub utility_rises : (n : ℕ) (bs : List Bid) (x : Vector) (s : Choices) → AreOver n bs → utility bs (minus x s) ≡ utility bs x +ℤ weight_meeting n s bs x
utility_rises n [] x s o = omega (arith, ints)
utility_rises n (b ∷ bs) x s o =
    let l : length b.values.items ≤ n = omega (arith, first_over n b bs o) in
    let g = ap (λ z. b.weight *ℤ z) (gain_rises n b.values.items x s l) in
    let e = *ℤ-sum b.weight (gain b.values.items x) (bit (meets (suc n) (best b.values.items x) s)) in
    let r = times_bit b.weight (meets (suc n) (best b.values.items x) s) in
    let h = utility_rises n bs x s (rest_over n b bs o) in
    omega (arith, ints)
