-- Bidders with a cap or without keep the laws of members, and their utilities go together at all scales.
use Rattle.std.proofs.Common.{◌≡◌, ℕ, ◌≤◌, ℤ, List, length, refl, sym, subst, arith, Option, Some, None}
use Rattle.std.specs.Int.RustNames.{unsigned_abs}
use Rattle.std.proofs.lemmas.Int.{ints, clamps}
use Rattle.mix_num.specs.Sellers.{IsAmount}
use Rattle.mix_bids.specs.Bids.{AreBids, top_value}
use Rattle.mix_bids.specs.Caps.{ArePositive, capped_total, capped_utility, scaled_utility_under, utility_under}
use Rattle.mix_bids.specs.Convexity.{IsConvexAtScales}
use Rattle.mix_bids.specs.declared.bid.Bid.{Bid}
use Rattle.mix_bids.proofs.Lengths.{over_of}
use Rattle.mix_law.specs.Scales.{KeepsScales}
use Rattle.mix_validity.proofs.ListLaws.{KeepsSmallLaws, list_keeps_laws}
use Rattle.mix_validity.proofs.ListsAtScales.{list_keeps_scales}
use Rattle.mix_cap.specs.Laws.{capped_l_natural}
use Rattle.mix_cap.proofs.CapsAtScales.{capped_is_convex, capped_keeps_scales}

-- a bidder with a cap is convex
pub capped_convex : (n : ℕ) (cap : Option ℤ) (units : ℤ) (bs : List Bid) → AreBids n bs → ArePositive bs → cap ≡ Some units → IsConvexAtScales (scaled_utility_under cap bs)
capped_convex n cap units bs are positive e =
    subst (λ (c : Option ℤ). IsConvexAtScales (scaled_utility_under c bs)) (sym e) (capped_is_convex n (unsigned_abs units) bs (over_of n bs are) positive)

-- it keeps the laws, and its total is small
capped_keeps_laws : (n : ℕ) (cap : ℤ) (bs : List Bid) → AreBids n bs → ArePositive bs → IsAmount cap → KeepsSmallLaws n (capped_utility (unsigned_abs cap) bs)
capped_keeps_laws n cap bs are positive range = record {
  laws = record { total = capped_total (unsigned_abs cap) bs; top = top_value bs; l_natural = capped_l_natural n (unsigned_abs cap) bs are positive };
  small = omega (arith, ints, clamps, range.0, range.1);
}

-- so does a bidder of either kind that is convex; of a cap it is known that it is in its range, and that the weights are positive
pub under_keeps_laws : (n : ℕ) (cap : Option ℤ) (bs : List Bid) → AreBids n bs → length bs ≤ 400 → ((c : ℤ) → cap ≡ Some c → IsAmount c × ArePositive bs)
    → IsConvexAtScales (scaled_utility_under cap bs) → KeepsSmallLaws n (utility_under cap bs)
under_keeps_laws n None bs are few capped convex = list_keeps_laws n bs are few convex
under_keeps_laws n (Some cap) bs are few capped convex = let c = capped cap refl in capped_keeps_laws n cap bs are c.1 c.0

pub under_keeps_scales : (n : ℕ) (cap : Option ℤ) (bs : List Bid) → AreBids n bs → ((c : ℤ) → cap ≡ Some c → ArePositive bs)
    → IsConvexAtScales (scaled_utility_under cap bs) → KeepsScales n (scaled_utility_under cap bs)
under_keeps_scales n None bs are positive convex = list_keeps_scales n bs (over_of n bs are) convex
under_keeps_scales n (Some cap) bs are positive convex = capped_keeps_scales n (unsigned_abs cap) bs (over_of n bs are) (positive cap refl)
