-- Bids of positive weight: their units, and what these gain.
use Rattle.std.proofs.Common.{◌≡◌, ℕ, suc, Bool, true, false, cond, List, [], ◌∷◌, ℤ, pos, negsuc, ◌+ℤ◌, ◌-ℤ◌, ◌≤ℤ◌, refl, arith}
use Rattle.std.proofs.lemmas.Int.{ints}
use Rattle.std.proofs.lemmas.List.Elements.{All-head, All-tail}
use Rattle.std.specs.Int.RustNames.{unsigned_abs}
use Rattle.mix_num.specs.Vectors.{Vector, with_null}
use Rattle.mix_bids.specs.Offers.{best, gain, pair, same_set}
use Rattle.mix_bids.specs.Bids.{NoneNegative, total_weight, weight_where}
use Rattle.mix_bids.specs.Caps.{ArePositive, IsPositive, count, left_over, units}
use Rattle.mix_bids.specs.declared.bid.Bid.{Bid}
use Rattle.mix_bids.proofs.Gains.{gain_is}
use Rattle.mix_bids.proofs.Units.{AreAtLeast, at_least_times, length-units, rest}

pub weight_is : (w : ℤ) → pos 1 ≤ℤ w → pos (unsigned_abs w) ≡ w
weight_is (pos m) h = refl
weight_is (negsuc m) h = absurd (omega (arith, ints))

-- the weights together count the units
pub count_is : (bs : List Bid) → ArePositive bs → pos (count bs) ≡ total_weight bs
count_is [] p = refl
count_is (b ∷ bs) p =
    let w = weight_is b.weight (All-head IsPositive b bs p) in
    let h = count_is bs (All-tail IsPositive b bs p) in
    omega (arith, ints)

pub weight_of_some : (p : Bid → Bool) (bs : List Bid) → ArePositive bs → pos 0 ≤ℤ weight_where p bs
weight_of_some p [] a = omega (arith, ints)
weight_of_some p (b ∷ bs) a = step (p b) (All-head IsPositive b bs a) (weight_of_some p bs (All-tail IsPositive b bs a))
  where
    step : (t : Bool) → pos 1 ≤ℤ b.weight → pos 0 ≤ℤ weight_where p bs → pos 0 ≤ℤ (cond t b.weight (pos 0) +ℤ weight_where p bs)
    step true h r = omega (arith, ints)
    step false h r = omega (arith, ints)

-- no facet weight of such a list is negative
pub none_negative_of_positive : (n : ℕ) (bs : List Bid) → ArePositive bs → NoneNegative n bs
none_negative_of_positive n bs a i j l m prices long = weight_of_some (λ b. same_set (suc n) (best b.values.items (with_null prices)) (pair i j)) bs a

-- what a bid gains
abbrev pub gain_of : Vector → Bid → ℤ
gain_of x b = gain b.values.items x

-- no unit gains less than what the null choice leaves
pub units_least : (bs : List Bid) (x : Vector) → AreAtLeast (pos 0 -ℤ x 0) (units (gain_of x) bs)
units_least [] x = tt
units_least (b ∷ bs) x = at_least_times (pos 0 -ℤ x 0) (unsigned_abs b.weight) (gain b.values.items x) (units (gain_of x) bs) ((gain_is b.values.items x).upper 0 (pos 0) refl) (units_least bs x)

pub rest-units : (c : ℕ) (bs : List Bid) (x : Vector) → rest c (units (gain_of x) bs) ≡ left_over c bs
rest-units c bs x = let l = length-units (gain_of x) bs in omega arith
