-- At prices of the least Lyapunov value at or above the reserves the bidders and the seller together demand the supply, so at no set of choices is
-- there more of it than their tables allow.
use Rattle.std.proofs.Common.{◌≡◌, ℕ, zero, suc, ◌^◌, ◌<◌, ℤ, pos, ◌+ℤ◌, ◌-ℤ◌, ◌*ℤ◌, ◌≤ℤ◌, List, [], ◌∷◌, length, get_or, map, refl, ap, ◌∙◌, arith}
use Rattle.std.proofs.lemmas.Int.{ints, clamps}
use Rattle.std.proofs.lemmas.Nat.{pow_pos}
use Rattle.std.proofs.lemmas.List.{length-map}
use Rattle.std.proofs.lemmas.List.FromFn.{length-map-range_with_len, get_or-map-range_with_len}
use Rattle.std.proofs.Math.IntN.{*ℤ_comm, zero-*ℤ}
use Rattle.std.specs.Int.{int_max}
use Rattle.std.specs.List.{range_with_len}
use Rattle.mix_num.specs.Vectors.{Vector, members, sum_to, dot_to, with_null}
use Rattle.mix_num.specs.Sums.{dot_of, entries, sum_in, total}
use Rattle.mix_num.specs.Sellers.{IsForSale, seller_gain, unit_gain}
use Rattle.mix_num.specs.Tables.{number_of, whole}
use Rattle.mix_num.specs.Shares.{sum_at, supply_null}
use Rattle.mix_num.specs.Orders.{IsOrder}
use Rattle.mix_num.proofs.Additions.{dot_to-front}
use Rattle.mix_num.proofs.Costs.{dot_plus, dot_same}
use Rattle.mix_num.proofs.Orders.{sum-append, sum-ordered}
use Rattle.mix_law.specs.Members.{IsLNatural, KeepsLaws, excess, rho}
use Rattle.mix_law.specs.Demands.{IsDemanded, IsTableOf, table_of}
use Rattle.mix_law.specs.Sums.{sum_l_natural}
use Rattle.mix_law.proofs.Demanded.{fits-where_demanded}
use Rattle.mix_law.proofs.Ranges.{decreasing}
use Rattle.mix_seller.specs.Laws.{seller_l_natural}
use Rattle.mix_market.specs.Lyapunov.{sum_of, lyapunov, IsBelow}
use Rattle.mix_market.proofs.MarketLaws.{lyapunov-is}
use Rattle.mix_law.specs.Certificates.{tables_at}
use Rattle.mix_clearing.specs.Utilities.{KeepLaws}
use Rattle.mix_clearing.proofs.ClearingPrices.{lyapunov-cost}
use Rattle.mix_clearing.proofs.TableLists.{table_of-is}

-- ---- the sum of utilities that keep the laws keeps them
none-l_natural : (n : ℕ) → IsLNatural n (λ x. pos 0) (pos 0) (λ i. pos 0)
none-l_natural n = record {
  reads = λ x y a. refl;
  shift = λ x k. let e = *ℤ_comm k (pos 0) in let z = zero-*ℤ k in omega (arith, ints);
  local = λ x i j a b e. omega (arith, ints);
  far = λ x i a b h. refl;
  size = λ x z. (omega (arith, ints), omega (arith, ints, zero-*ℤ (excess n (λ i. pos 0) x)));
}

sum-lawful : (n : ℕ) (fs : List (Vector → ℤ)) → KeepLaws n fs → KeepsLaws n (sum_of fs)
sum-lawful n [] laws = record { total = pos 0; top = λ i. pos 0; l_natural = none-l_natural n }
sum-lawful n (f ∷ fs) laws =
    let first : KeepsLaws n f = laws 0 (omega arith) in
    let rest = sum-lawful n fs (λ k l. laws (suc k) (omega arith)) in
    record { total = _; top = _; l_natural = sum_l_natural refl first.l_natural rest.l_natural }

-- ---- what the seller gains and the supply costs at prices of the goods: the supply at the greater of price and reserve
sum_to-dot : (m : ℕ) (x y : Vector) → sum_to m (λ k. x k *ℤ y k) ≡ dot_to m x y
sum_to-dot zero x y = refl
sum_to-dot (suc m) x y = ap (λ (a : ℤ). a +ℤ (x m *ℤ y m)) (sum_to-dot m x y)

-- the greater of two vectors, entry by entry
abbrev greater_of : Vector → Vector → Vector
greater_of x y = λ k. int_max (x k) (y k)

raised-reserve : (q r : ℤ) → int_max (pos 0 -ℤ pos 0) (r -ℤ q) +ℤ q ≡ int_max q r
raised-reserve q r = omega (arith, ints, clamps)

seller-cost : (supply reserve : List ℤ) (x : Vector) → x 0 ≡ pos 0 → seller_gain supply reserve x +ℤ dot_to (suc (length supply)) (with_null supply) x ≡ dot_to (suc (length supply)) (with_null supply) (greater_of x (with_null reserve))
seller-cost supply reserve x e =
    let n = length supply in
    let front = dot_to-front n (with_null supply) x in
    let front2 = dot_to-front n (with_null supply) (greater_of x (with_null reserve)) in
    let gain = sum_to-dot n (entries supply) (λ k. unit_gain reserve x (suc k)) in
    let add = dot_plus n (entries supply) (λ k. unit_gain reserve x (suc k)) (λ k. x (suc k)) in
    let same = dot_same n (entries supply) (λ k. unit_gain reserve x (suc k) +ℤ x (suc k)) (λ k. greater_of x (with_null reserve) (suc k)) (λ k l. raised_at k) in
    let none = zero-*ℤ (x 0) in
    let none2 = zero-*ℤ (greater_of x (with_null reserve) 0) in
    omega (arith, ints)
  where
    raised_at : (k : ℕ) → unit_gain reserve x (suc k) +ℤ x (suc k) ≡ int_max (x (suc k)) (with_null reserve (suc k))
    raised_at k = ap (λ (a : ℤ). int_max (pos 0 -ℤ a) (with_null reserve (suc k) -ℤ x (suc k)) +ℤ x (suc k)) e ∙ raised-reserve (x (suc k)) (with_null reserve (suc k))

greater-is : (a b : ℤ) → b ≤ℤ a → int_max a b ≡ a
greater-is a b h = omega (arith, ints, clamps)

-- the numbers of the utilities' tables at a set, added
sum_at-rho : (n : ℕ) (fs : List (Vector → ℤ)) (p : List ℤ) (set : ℕ) → set < 2 ^ suc n → sum_at (map (λ f. table_of n f p) fs) set ≡ rho (sum_of fs) (with_null p) (members set)
sum_at-rho n [] p set h = omega (arith, ints)
sum_at-rho n (f ∷ fs) p set h =
    let first = (table_of-is n f p).numbers set h in
    let rest = sum_at-rho n fs p set h in
    omega (arith, ints)

module _ (utilities : List (Vector → ℤ)) (supply reserve p : List ℤ) (laws : KeepLaws (length supply) utilities) (sale : IsForSale supply reserve)
    (long : length p ≡ length supply) (floor : IsBelow (length supply) (with_null reserve) (with_null p))
    (least : (z : Vector) → z 0 ≡ pos 0 → IsBelow (length supply) (with_null reserve) z → lyapunov utilities supply (with_null p) ≤ℤ lyapunov utilities supply z) where
  abbrev n : ℕ
  n = length supply

  -- the bidders' utilities and the seller's function together
  abbrev all : Vector → ℤ
  all x = seller_gain supply reserve x +ℤ sum_of utilities x

  all-lawful : KeepsLaws n all
  all-lawful = record { total = _; top = _; l_natural = sum_l_natural refl (seller_l_natural supply reserve sale) (sum-lawful n utilities laws).l_natural }

  -- with what the supply costs they are the bidders' utilities, with the supply at the greater of price and reserve
  all-cost : (q : List ℤ) → length q ≡ n → all (with_null q) +ℤ dot_of q supply ≡ sum_of utilities (with_null q) +ℤ dot_to (suc n) (with_null supply) (greater_of (with_null q) (with_null reserve))
  all-cost q e =
      let b = seller-cost supply reserve (with_null q) refl in
      let c = lyapunov-is utilities supply (with_null q) in
      let d = lyapunov-cost utilities supply q e in
      omega (arith, ints)

  supply-demanded : IsDemanded n all p supply
  supply-demanded q e =
      let z : Vector = greater_of (with_null q) (with_null reserve) in
      let fewer = decreasing sale.some (sum-lawful n utilities laws).l_natural (with_null q) z (λ k l. omega (arith, ints, clamps)) in
      let value = lyapunov-is utilities supply z in
      let low = least z refl (λ k l. omega (arith, ints, clamps)) in
      let here = all-cost p long in
      let there = all-cost q e in
      let at = dot_same (suc n) (with_null supply) (greater_of (with_null p) (with_null reserve)) (with_null p) (λ k l. greater-is _ _ (floor k (omega arith))) in
      let own = lyapunov-is utilities supply (with_null p) in
      omega (arith, ints)

  module _ (order : List ℕ) (ordered : IsOrder (length utilities) order) where
    abbrev rows : List (List ℤ)
    rows = tables_at utilities supply reserve p order

    -- the sum of the tables is the table of all together
    summed : List ℤ
    summed = map (λ set. sum_at rows set) (range_with_len 0 (2 ^ suc n))

    summed-is : (set : ℕ) → set < 2 ^ suc n → number_of summed set ≡ sum_at rows set
    unfolding summed
    summed-is set h = get_or-map-range_with_len (λ set. sum_at rows set) 0 (2 ^ suc n) set set (pos 0) h (omega arith)

    sum_at-all : (set : ℕ) → set < 2 ^ suc n → sum_at rows set ≡ rho all (with_null p) (members set)
    sum_at-all set h =
        let tables : List (List ℤ) = map (λ f. table_of n f p) utilities in
        let a = sum-append (map (λ k. get_or tables k []) order) (table_of n (seller_gain supply reserve) p) set in
        let b = sum-ordered tables set (length utilities) order (length-map utilities (λ f. table_of n f p)) ordered in
        let c = sum_at-rho n utilities p set h in
        let d = (table_of-is n (seller_gain supply reserve) p).numbers set h in
        omega (arith, ints)

    summed-table : IsTableOf n all p summed
    unfolding summed
    summed-table = record {
      size = length-map-range_with_len (λ set. sum_at rows set) 0 (2 ^ suc n);
      numbers = λ set h. summed-is set h ∙ sum_at-all set h;
    }

    -- no set has more of the supply than the tables allow
    pub supply-within : (set : ℕ) → set < 2 ^ suc n → sum_in (supply_null n rows supply ∷ supply) set ≤ℤ sum_at rows set
    supply-within set h =
        let fits = fits-where_demanded all-lawful.l_natural p summed supply long refl summed-table supply-demanded in
        let some : 0 < 2 ^ suc n = pow_pos (suc n) in
        let a = fits.within set h in
        let b = summed-is set h in
        let d = summed-is (whole n) (omega arith) in
        let e = ap (λ (w : ℤ). sum_in ((w -ℤ total supply) ∷ supply) set) d in
        omega (arith, ints)
