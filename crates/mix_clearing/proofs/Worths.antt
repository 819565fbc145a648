-- What a demanded bundle is worth, and that no allocation is worth more than one that clears.
use Rattle.std.proofs.Common.{◌≡◌, ℕ, zero, suc, ◌<◌, ℤ, pos, ◌+ℤ◌, ◌*ℤ◌, ◌≤ℤ◌, ◌<ℤ◌, List, [], ◌∷◌, length, get_or, refl, ap, arith}
use Rattle.std.proofs.lemmas.Int.{ints}
use Rattle.mix_num.specs.Vectors.{Vector, dot_to, with_null}
use Rattle.mix_num.specs.Sums.{entries, dot_of, total}
use Rattle.mix_num.proofs.Additions.{total-none, total-cons}
use Rattle.mix_num.proofs.Products.{product_grows_left}
use Rattle.mix_law.specs.Demands.{IsDemanded}
use Rattle.mix_market.specs.Lyapunov.{sum_of}
use Rattle.mix_law.specs.Clearings.{bidder_utility, bidder_bundle, Clears}
use Rattle.mix_clearing.specs.Values.{HasValue, HaveValues, IsAllocation, AreWorthMost, worth}
use Rattle.mix_num.proofs.Costs.{dot-is, dot-grows, cost_of, cost-of_supply}

-- a demanded bundle is worth the utility and its cost
pub value-where_demanded : (n : ℕ) (f : Vector → ℤ) (p bundle : List ℤ) → length p ≡ n → IsDemanded n f p bundle → HasValue n f bundle (f (with_null p) +ℤ dot_of p bundle)
value-where_demanded n f p bundle long demanded = record { over = demanded; reached = (p, long, refl) }

-- bidder by bidder, what is worth no more, and what is worth no less
sum-most : (us : List (Vector → ℤ)) (xs : List (List ℤ)) (vs p : List ℤ) → length xs ≡ length us → length vs ≡ length us
    → ((k : ℕ) → k < length us → get_or vs k (pos 0) ≤ℤ (bidder_utility us k (with_null p) +ℤ dot_of p (bidder_bundle xs k))) → total vs ≤ℤ (sum_of us (with_null p) +ℤ cost_of p xs)
sum-most [] [] [] p e l h = omega (arith, ints, total-none)
sum-most [] (x ∷ xs) vs p e l h = absurd (omega arith)
sum-most [] xs (v ∷ vs) p e l h = absurd (omega arith)
sum-most (u ∷ us) [] vs p e l h = absurd (omega arith)
sum-most (u ∷ us) xs [] p e l h = absurd (omega arith)
sum-most (u ∷ us) (x ∷ xs) (v ∷ vs) p e l h =
    let first = h 0 (omega arith) in
    let rest = sum-most us xs vs p (omega arith) (omega arith) (λ k m. h (suc k) (omega arith)) in
    omega (arith, ints, total-cons v vs)

sum-least : (us : List (Vector → ℤ)) (xs : List (List ℤ)) (vs p : List ℤ) → length xs ≡ length us → length vs ≡ length us
    → ((k : ℕ) → k < length us → (bidder_utility us k (with_null p) +ℤ dot_of p (bidder_bundle xs k)) ≤ℤ get_or vs k (pos 0)) → (sum_of us (with_null p) +ℤ cost_of p xs) ≤ℤ total vs
sum-least [] [] [] p e l h = omega (arith, ints, total-none)
sum-least [] (x ∷ xs) vs p e l h = absurd (omega arith)
sum-least [] xs (v ∷ vs) p e l h = absurd (omega arith)
sum-least (u ∷ us) [] vs p e l h = absurd (omega arith)
sum-least (u ∷ us) xs [] p e l h = absurd (omega arith)
sum-least (u ∷ us) (x ∷ xs) (v ∷ vs) p e l h =
    let first = h 0 (omega arith) in
    let rest = sum-least us xs vs p (omega arith) (omega arith) (λ k m. h (suc k) (omega arith)) in
    omega (arith, ints, total-cons v vs)

at-reserve : (r p y : ℤ) → pos 0 ≤ℤ y → (pos 0 <ℤ y → p ≡ r) → (p *ℤ y) ≤ℤ (r *ℤ y)
at-reserve r p (pos zero) s e = omega (arith, ints)
at-reserve r p (pos (suc y)) s e = let i = e (omega (arith, ints)) in product_grows_left p r (pos (suc y)) (omega (arith, ints)) (omega (arith, ints))
at-reserve r p y s e = absurd (omega (arith, ints))

module _ (utilities : List (Vector → ℤ)) (supply reserve p : List ℤ) (bundles : List (List ℤ)) (returns : List ℤ) (long : length reserve ≡ length supply) (c : Clears utilities supply reserve p bundles returns) where
  abbrev n : ℕ
  n = length supply

  -- every bundle that clears has a value
  pub value-where_clears : (k : ℕ) → k < length utilities → HasValue n (bidder_utility utilities k) (bidder_bundle bundles k) (bidder_utility utilities k (with_null p) +ℤ dot_of p (bidder_bundle bundles k))
  value-where_clears k h = value-where_demanded n (bidder_utility utilities k) p (bidder_bundle bundles k) c.size (c.demanded k h)

  -- and no allocation of bundles that have values is worth more than what clears
  pub worth-most : (values : List ℤ) → HaveValues utilities n bundles values
      → (others : List (List ℤ)) (kept theirs : List ℤ) → IsAllocation (length utilities) supply others kept → HaveValues utilities n others theirs
      → worth theirs reserve kept ≤ℤ worth values reserve returns
  worth-most values have others kept theirs given they =
      let low = sum-least utilities bundles values p c.count have.count (λ k h. let q = (have.each k h).reached in let d = c.demanded k h q.0 q.1 in let e = q.2 in omega (arith, ints)) in
      let high = sum-most utilities others theirs p given.count they.count (λ k h. (they.each k h).over p c.size) in
      let a = cost-of_supply p supply bundles returns c.size c.sum in
      let b = cost-of_supply p supply others kept c.size given.sum in
      let u = dot-is p returns in
      let v = dot-is reserve returns in
      let w = dot-is p kept in
      let x = dot-is reserve kept in
      let i = ap (λ (m : ℕ). dot_to m (entries p) (entries returns)) c.size in
      let j = ap (λ (m : ℕ). dot_to m (entries reserve) (entries returns)) long in
      let k = ap (λ (m : ℕ). dot_to m (entries p) (entries kept)) c.size in
      let l = ap (λ (m : ℕ). dot_to m (entries reserve) (entries kept)) long in
      let own = dot-grows n (entries reserve) (entries p) (entries returns) (λ i l. at-reserve _ _ _ (c.lawful.some i l) (c.lawful.at_reserve i l)) in
      let other = dot-grows n (entries p) (entries reserve) (entries kept) (λ i l. product_grows_left _ _ _ (given.some i l) (c.floor i l)) in
      omega (arith, ints)

  pub worth_most-where_clears : AreWorthMost utilities supply reserve bundles returns
  worth_most-where_clears = record { valued = λ k h. (_, value-where_clears k h); most = worth-most }
