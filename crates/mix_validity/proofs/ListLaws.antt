-- The indirect utilities of convex lists keep the laws of members, and their totals are small.
use Rattle.std.proofs.Common.{ℕ, ◌*◌, ◌≤◌, ℤ, pos, ◌≤ℤ◌, List, [], ◌∷◌, length, arith}
use Rattle.std.proofs.lemmas.Int.{ints}
use Rattle.std.proofs.lemmas.List.Elements.{All-head, All-tail}
use Rattle.mix_num.specs.Vectors.{Vector}
use Rattle.mix_bids.specs.Bids.{AreBids, IsBid, top_value, total_weight, utility}
use Rattle.mix_bids.specs.Convexity.{IsConvexList}
use Rattle.mix_bids.specs.declared.bid.Bid.{Bid}
use Rattle.mix_bids.proofs.Lengths.{over_of}
use Rattle.mix_law.specs.Members.{KeepsLaws}
use Rattle.mix_validity.specs.Laws.{valid_l_natural}
use Rattle.mix_validity.proofs.ConvexLists.{convex_exactly}

-- the total of bids
total-most : (n : ℕ) (bs : List Bid) → AreBids n bs → total_weight bs ≤ℤ pos (10000 * length bs)
total-most n [] are = omega (arith, ints)
total-most n (b ∷ bs) are =
    let first = (All-head (IsBid n) b bs are).weight in
    let rest = total-most n bs (All-tail (IsBid n) b bs are) in
    omega (arith, ints, first.1)

-- a function that keeps the laws, with a total of at most 4,000,000
pub record KeepsSmallLaws (n : ℕ) (f : Vector → ℤ) : Type 0 where
  pub laws : KeepsLaws n f
  pub small : laws.total ≤ℤ pos 4000000

pub list_keeps_laws : (n : ℕ) (bs : List Bid) → AreBids n bs → length bs ≤ 400 → IsConvexList bs → KeepsSmallLaws n (utility bs)
list_keeps_laws n bs are few convex =
    let most = total-most n bs are in
    record {
      laws = record { total = total_weight bs; top = top_value bs; l_natural = valid_l_natural n bs are ((convex_exactly n bs (over_of n bs are)).0 convex) };
      small = omega (arith, ints, most, few);
    }
