-- A list is convex over all rational prices exactly where no facet weight of it is negative.
use Rattle.std.proofs.Common.{◌≡◌, ◌≢◌, ◌↔◌, ℕ, ◌*◌, ◌≤◌, List, ℤ, neg_ℤ, ◌+ℤ◌, ◌-ℤ◌, ◌*ℤ◌, ◌≤ℤ◌, arith, ap, ◌∙◌, map}
use Rattle.std.proofs.lemmas.Int.{ints}
use mathlib.Core.Path.{fun_ext}
use Rattle.mix_num.specs.Vectors.{Vector, only, plus, shifted, with_null}
use Rattle.mix_num.proofs.Products.{sum-*ℤ}
use Rattle.mix_bids.specs.Offers.{pair}
use Rattle.mix_bids.specs.Bids.{NoneNegative, total_weight, utility}
use Rattle.mix_bids.specs.Convexity.{IsConvexList, bid_at, utility_at}
use Rattle.mix_bids.specs.declared.bid.Bid.{Bid}
use Rattle.mix_bids.proofs.HalfSteps.{utility_halfway}
use Rattle.mix_bids.proofs.Lengths.{AreOver, over_of}
use Rattle.mix_bids.proofs.Locals.{local_utility, plus_two}
use Rattle.mix_bids.proofs.Multiples.{total_at, utility-times, utility_once}
use Rattle.mix_bids.proofs.Weights.{utility_shifted}
use Rattle.mix_law.proofs.Midpoint.{middle_of_doubles}
use Rattle.mix_validity.specs.ValidLists.{book_of}
use Rattle.mix_validity.specs.declared.valid_list.ValidList.{ValidList}
use Rattle.mix_validity.proofs.FacetsAtScales.{utility_keeps}

-- where none is negative the list is convex: at twice the scale, the middle of the doubles
pub convex_list : (n : ℕ) (bs : List Bid) → AreOver n bs → NoneNegative n bs → IsConvexList bs
convex_list n bs o none = record {
  halfway = λ d some x y a b.
      let m = middle_of_doubles (utility_keeps n (2 * d) bs o (omega arith) none) x y in
      let p = utility-times 2 d bs x in
      let q = utility-times 2 d bs y in
      omega (arith, ints);
}

-- at each scale the utility falls by k totals where every price, the null choice's too, rises by k
shifted_at : (d : ℕ) (bs : List Bid) (x : Vector) (k : ℤ) → utility_at bs d (shifted x k) ≡ utility_at bs d x -ℤ (k *ℤ total_weight bs)
shifted_at d bs x k = utility_shifted (map (bid_at d) bs) x k ∙ ap (λ z. utility_at bs d x -ℤ (k *ℤ z)) (total_at d bs)

-- a convex list is so at any price of the null choice
any_null : (bs : List Bid) → IsConvexList bs → (d : ℕ) → 1 ≤ d → (x y : Vector) → utility_at bs (2 * d) (λ k. x k +ℤ y k) ≤ℤ (utility_at bs d x +ℤ utility_at bs d y)
any_null bs convex d some x y =
    let a = neg_ℤ (x 0) in
    let b = neg_ℤ (y 0) in
    let h = convex.halfway d some (shifted x a) (shifted y b) (omega (arith, ints)) (omega (arith, ints)) in
    let e : (λ k. shifted x a k +ℤ shifted y b k) ≡ shifted (λ k. x k +ℤ y k) (a +ℤ b) = fun_ext (λ k. omega (arith, ints)) in
    let p = ap (utility_at bs (2 * d)) e ∙ shifted_at (2 * d) bs (λ k. x k +ℤ y k) (a +ℤ b) in
    let q = shifted_at d bs x a in
    let r = shifted_at d bs y b in
    let s = sum-*ℤ a b (total_weight bs) in
    omega (arith, ints)

-- and no facet weight of it is negative at any whole prices: half way between those with either choice raised lies half a step of both
pub none_negative_of : (n : ℕ) (bs : List Bid) → AreOver n bs → IsConvexList bs → NoneNegative n bs
none_negative_of n bs o convex i j h b p _ =
    let x = with_null p in
    let a : i ≤ n = omega arith in
    let d : i ≢ j = omega arith in
    let sum : Vector = λ k. plus x (only i) k +ℤ plus x (only j) k in
    let half : Vector = λ k. x k +ℤ plus x (pair i j) k in
    let two = plus_two x i j d in
    let same : sum ≡ half = fun_ext (λ k. omega (arith, ints, ap (λ (z : Vector). z k) two)) in
    let mean = any_null bs convex 1 (omega arith) (plus x (only i)) (plus x (only j)) in
    let f : utility_at bs 2 sum ≡ utility_at bs 1 x +ℤ utility_at bs 1 (plus x (pair i j)) = ap (utility_at bs 2) same ∙ utility_halfway n 1 bs x (pair i j) o in
    let g = local_utility n bs x i j o a b d in
    let u = ap (utility bs) two in
    omega (arith, ints, utility_once bs x, utility_once bs (plus x (pair i j)), utility_once bs (plus x (only i)), utility_once bs (plus x (only j)))

pub convex_exactly : (n : ℕ) (bs : List Bid) → AreOver n bs → IsConvexList bs ↔ NoneNegative n bs
convex_exactly n bs o = (none_negative_of n bs o, convex_list n bs o)

-- a valid list is convex
pub valid_is_convex : (valid : ValidList) → IsConvexList (book_of valid).bids
valid_is_convex valid = convex_list valid.list.goods valid.list.bids (over_of valid.list.goods valid.list.bids valid.proper) valid.valid
