-- How many units a cap serves and leaves over.
use Rattle.std.proofs.Common.{◌≡◌, ◌∙◌, ℕ, suc, List, ℤ, pos, negsuc, ◌-ℤ◌, ◌≤ℤ◌, ◌<ℤ◌, int_lt, refl, ap, arith}
use Rattle.std.proofs.lemmas.Int.{ints, clamps}
use Rattle.std.specs.Int.{int_min}
use Rattle.std.specs.Int.RustNames.{unsigned_abs}
use Rattle.mix_num.specs.Vectors.{Vector}
use Rattle.mix_bids.specs.Bids.{total_weight, weight_where}
use Rattle.mix_bids.specs.Caps.{ArePositive, left_over}
use Rattle.mix_bids.specs.declared.bid.Bid.{Bid}
use Rattle.mix_bids.proofs.PositiveBids.{count_is, gain_of}
use Rattle.mix_cap.specs.Lots.{above, lots_of, sum_over}
use Rattle.mix_cap.specs.declared.lots.Lot.{Lot}
use Rattle.mix_cap.proofs.LotSums.{above_lots}

pub cap_is : (w : ℤ) → pos 0 ≤ℤ w → pos (unsigned_abs w) ≡ w
cap_is (pos m) h = refl
cap_is (negsuc m) h = absurd (omega (arith, ints))

pub total_counts : (bs : List Bid) → ArePositive bs → pos 0 ≤ℤ total_weight bs
total_counts bs p = let e = count_is bs p in omega (arith, ints)

-- what the cap leaves over
pub left_is : (cap total least : ℤ) (bs : List Bid) → ArePositive bs → pos 0 ≤ℤ cap → total ≡ total_weight bs → least ≡ int_min total cap → total -ℤ least ≡ pos (left_over (unsigned_abs cap) bs)
left_is cap total least bs p h e f =
    let c = cap_is cap h in
    let d = count_is bs p in
    omega (arith, ints, clamps)

-- a threshold found for the lots of a list tells what its bids gain
pub record IsToldBy (cap : ℤ) (x : Vector) (bs : List Bid) (z : ℕ) : Type 0 where
  pub passed : weight_where (λ b. int_lt (pos z) (gain_of x b)) bs ≤ℤ pos (unsigned_abs cap)
  pub least : (k : ℕ) → z ≡ suc k → pos (unsigned_abs cap) <ℤ weight_where (λ b. int_lt (pos k) (gain_of x b)) bs

pub told_by_lots : (cap same : ℤ) (x : Vector) (bs : List Bid) (lots : List Lot) (z : ℕ) → pos 0 ≤ℤ cap → same ≡ cap → lots ≡ lots_of x bs → sum_over (above (pos z)) lots ≤ℤ same
    → ((k : ℕ) → z ≡ suc k → same <ℤ sum_over (above (pos k)) lots) → IsToldBy cap x bs z
told_by_lots cap same x bs lots z h s e p l = record {
  passed = let a = at z in let c = cap_is cap h in omega (arith, ints);
  least = λ k q. let a = at k in let c = cap_is cap h in let b = l k q in omega (arith, ints);
}
  where
    at : (k : ℕ) → sum_over (above (pos k)) lots ≡ weight_where (λ b. int_lt (pos k) (gain_of x b)) bs
    at k = ap (sum_over (above (pos k))) e ∙ above_lots (pos k) x bs
