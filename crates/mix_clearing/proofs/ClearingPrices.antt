-- Prices that clear have the least Lyapunov value at or above the reserves, and what clears there clears wherever that value is the same. No
-- law of the utilities is used.
use Rattle.std.proofs.Common.{◌≡◌, ℕ, zero, suc, ◌<◌, ◌⊎◌, inl, inr, ℤ, pos, ◌+ℤ◌, ◌*ℤ◌, ◌≤ℤ◌, ◌<ℤ◌, List, [], ◌∷◌, length, get_or, ap, arith}
use Rattle.std.proofs.lemmas.Int.{ints}
use Rattle.mix_num.specs.Vectors.{Vector, dot_to, with_null}
use Rattle.mix_num.specs.Sums.{entries, dot_of}
use Rattle.mix_num.specs.Returns.{AreLawfulReturns}
use Rattle.mix_num.proofs.Additions.{dot_to-front}
use Rattle.mix_num.proofs.Products.{product_grows_left, sum-*ℤ}
use Rattle.mix_num.proofs.Costs.{dot-is, dot-comm, dot-grows, dot-alike, cost_of, cost-of_supply}
use Rattle.mix_law.specs.Demands.{IsDemanded}
use Rattle.mix_market.specs.Lyapunov.{sum_of, lyapunov}
use Rattle.mix_market.proofs.MarketLaws.{lyapunov-is}
use Rattle.mix_law.specs.Clearings.{bidder_utility, bidder_bundle, Clears}

-- the Lyapunov function is the sum of the utilities and the cost of the supply
pub lyapunov-cost : (utilities : List (Vector → ℤ)) (supply q : List ℤ) → length q ≡ length supply → lyapunov utilities supply (with_null q) ≡ sum_of utilities (with_null q) +ℤ dot_of q supply
lyapunov-cost utilities supply q long =
    let a = lyapunov-is utilities supply (with_null q) in
    let front = dot_to-front (length supply) (with_null supply) (with_null q) in
    let none : with_null supply 0 *ℤ with_null q 0 ≡ pos 0 = omega (arith, ints) in
    let turned = dot-comm (length supply) (entries supply) (entries q) in
    let b = dot-is q supply in
    let d = ap (λ (m : ℕ). dot_to m (entries q) (entries supply)) long in
    omega (arith, ints)

-- what all bidders demand at q costs them together no more at other prices
demands-add : (n : ℕ) (us : List (Vector → ℤ)) (xs : List (List ℤ)) (q p : List ℤ) → length xs ≡ length us → length p ≡ n → ((k : ℕ) → k < length us → IsDemanded n (bidder_utility us k) q (bidder_bundle xs k))
    → (sum_of us (with_null q) +ℤ cost_of q xs) ≤ℤ (sum_of us (with_null p) +ℤ cost_of p xs)
demands-add n [] [] q p e l d = omega (arith, ints)
demands-add n [] (x ∷ xs) q p e l d = absurd (omega arith)
demands-add n (u ∷ us) [] q p e l d = absurd (omega arith)
demands-add n (u ∷ us) (x ∷ xs) q p e l d =
    let first = d 0 (omega arith) p l in
    let rest = demands-add n us xs q p (omega arith) l (λ k h. d (suc k) (omega arith)) in
    omega (arith, ints)

-- and where it is no more, each of them demands there what it did
demands-alike : (n : ℕ) (us : List (Vector → ℤ)) (xs : List (List ℤ)) (q p : List ℤ) → length xs ≡ length us → length p ≡ n → ((k : ℕ) → k < length us → IsDemanded n (bidder_utility us k) q (bidder_bundle xs k))
    → (sum_of us (with_null p) +ℤ cost_of p xs) ≤ℤ (sum_of us (with_null q) +ℤ cost_of q xs)
    → (k : ℕ) → k < length us → IsDemanded n (bidder_utility us k) p (bidder_bundle xs k)
demands-alike n [] [] q p e l d o k h = absurd (omega arith)
demands-alike n [] (x ∷ xs) q p e l d o k h = absurd (omega arith)
demands-alike n (u ∷ us) [] q p e l d o k h = absurd (omega arith)
demands-alike n (u ∷ us) (x ∷ xs) q p e l d o zero h = λ z m.
    let first = d 0 (omega arith) z m in
    let rest = demands-add n us xs q p (omega arith) l (λ k i. d (suc k) (omega arith)) in
    omega (arith, ints)
demands-alike n (u ∷ us) (x ∷ xs) q p e l d o (suc k) h =
    let first = d 0 (omega arith) p l in
    demands-alike n us xs q p (omega arith) l (λ j i. d (suc j) (omega arith)) (omega (arith, ints)) k (omega arith)

-- returns are worth no less at prices at or above the reserves: of some good there are some only at its reserve
kept_at : (r q p y : ℤ) → r ≤ℤ p → pos 0 ≤ℤ y → (pos 0 <ℤ y → q ≡ r) → (q *ℤ y) ≤ℤ (p *ℤ y)
kept_at r q p (pos zero) h s e = omega (arith, ints)
kept_at r q p (pos (suc y)) h s e = let i = e (omega (arith, ints)) in product_grows_left q p (pos (suc y)) (omega (arith, ints)) (omega (arith, ints))
kept_at r q p y h s e = absurd (omega (arith, ints))

-- and where they are worth no more, these are reserves too
reserve_at : (r q p y : ℤ) → r ≤ℤ p → q ≡ r → pos 0 <ℤ y → (p *ℤ y) ≤ℤ (q *ℤ y) → p ≡ r
reserve_at r q p y h e some o = at (split r p h)
  where
    split : (r p : ℤ) → r ≤ℤ p → (p ≡ r) ⊎ (r <ℤ p)
    split r p h = grind (arith, ints)

    at : (p ≡ r) ⊎ (r <ℤ p) → p ≡ r
    at (inl i) = i
    at (inr i) =
        let g = product_grows_left (q +ℤ pos 1) p y (omega (arith, ints)) (omega (arith, ints)) in
        let s = sum-*ℤ q (pos 1) y in
        let one : pos 1 *ℤ y ≡ y = omega (arith, ints) in
        absurd (omega (arith, ints))

module _ (utilities : List (Vector → ℤ)) (supply reserve q : List ℤ) (bundles : List (List ℤ)) (returns : List ℤ) (c : Clears utilities supply reserve q bundles returns)
    (p : List ℤ) (long : length p ≡ length supply) (floor : (i : ℕ) → i < length supply → get_or reserve i (pos 0) ≤ℤ get_or p i (pos 0)) where
  returns-at : (i : ℕ) → i < length supply → (get_or q i (pos 0) *ℤ get_or returns i (pos 0)) ≤ℤ (get_or p i (pos 0) *ℤ get_or returns i (pos 0))
  returns-at i l = kept_at _ _ _ _ (floor i l) (c.lawful.some i l) (c.lawful.at_reserve i l)

  bundles-less : (sum_of utilities (with_null q) +ℤ cost_of q bundles) ≤ℤ (sum_of utilities (with_null p) +ℤ cost_of p bundles)
  bundles-less = demands-add (length supply) utilities bundles q p c.count long c.demanded

  -- what the returns cost at either prices
  returns-cost : (prices : List ℤ) → length prices ≡ length supply → dot_of prices returns ≡ dot_to (length supply) (entries prices) (entries returns)
  returns-cost prices size =
      let a = dot-is prices returns in
      let e = ap (λ (m : ℕ). dot_to m (entries prices) (entries returns)) size in
      omega (arith, ints)

  returns-less : dot_of q returns ≤ℤ dot_of p returns
  returns-less =
      let a = returns-cost q c.size in
      let b = returns-cost p long in
      let g = dot-grows (length supply) (entries p) (entries q) (entries returns) returns-at in
      omega (arith, ints)

  -- the Lyapunov values, by what the bundles and the returns cost
  value-is : (prices : List ℤ) → length prices ≡ length supply → lyapunov utilities supply (with_null prices) ≡ (sum_of utilities (with_null prices) +ℤ cost_of prices bundles) +ℤ dot_of prices returns
  value-is prices size =
      let a = lyapunov-cost utilities supply prices size in
      let s = cost-of_supply prices supply bundles returns size c.sum in
      omega (arith, ints)

  -- at prices that clear the Lyapunov value is least
  pub least-where_clear : lyapunov utilities supply (with_null q) ≤ℤ lyapunov utilities supply (with_null p)
  least-where_clear =
      let a = value-is q c.size in
      let b = value-is p long in
      let u = bundles-less in
      let v = returns-less in
      omega (arith, ints)

  -- where it is no greater, the same bundles are demanded and the same returns are lawful
  demanded-where_alike : lyapunov utilities supply (with_null p) ≤ℤ lyapunov utilities supply (with_null q) → (k : ℕ) → k < length utilities → IsDemanded (length supply) (bidder_utility utilities k) p (bidder_bundle bundles k)
  demanded-where_alike o =
      let a = value-is q c.size in
      let b = value-is p long in
      let v = returns-less in
      demands-alike (length supply) utilities bundles q p c.count long c.demanded (omega (arith, ints))

  lawful-where_alike : lyapunov utilities supply (with_null p) ≤ℤ lyapunov utilities supply (with_null q) → AreLawfulReturns supply reserve p returns
  lawful-where_alike o =
      let a = value-is q c.size in
      let b = value-is p long in
      let u = bundles-less in
      let d = returns-cost q c.size in
      let e = returns-cost p long in
      let alike = dot-alike (length supply) (entries p) (entries q) (entries returns) returns-at (omega (arith, ints)) in
      record {
        size = c.lawful.size;
        some = c.lawful.some;
        most = c.lawful.most;
        at_reserve = λ i l h. reserve_at _ _ _ _ (floor i l) (c.lawful.at_reserve i l h) h (alike i l);
      }

  -- so what clears at q clears at p too
  pub clear-where_alike : lyapunov utilities supply (with_null p) ≤ℤ lyapunov utilities supply (with_null q) → Clears utilities supply reserve p bundles returns
  clear-where_alike o = record {
    size = long;
    floor = floor;
    count = c.count;
    sizes = c.sizes;
    demanded = demanded-where_alike o;
    lawful = lawful-where_alike o;
    sum = c.sum;
  }
