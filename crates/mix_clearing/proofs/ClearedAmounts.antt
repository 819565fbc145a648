-- How much bundles that clear, and returns, can have.
use Rattle.std.proofs.Common.{◌≡◌, ℕ, zero, suc, ◌<◌, ◌≤◌, ℤ, pos, ◌≤ℤ◌, List, [], ◌∷◌, All, length, get_or, arith}
use Rattle.std.proofs.lemmas.Int.{ints}
use Rattle.std.proofs.lemmas.List.{get_or_default}
use Rattle.mix_num.specs.Vectors.{Vector}
use Rattle.mix_num.specs.Sellers.{IsAmount, AreAmounts}
use Rattle.mix_num.specs.Shares.{sum_at}
use Rattle.mix_law.proofs.Amounts.{some-where_demanded}
use Rattle.mix_law.specs.Clearings.{bidder_utility, bidder_bundle, Clears}
use Rattle.mix_clearing.specs.Utilities.{KeepLaws}

-- of amounts that are not less than nothing none is more than their sum
sum-some : (xs : List (List ℤ)) (i : ℕ) → ((k : ℕ) → k < length xs → pos 0 ≤ℤ get_or (bidder_bundle xs k) i (pos 0)) → pos 0 ≤ℤ sum_at xs i
sum-some [] i h = omega (arith, ints)
sum-some (x ∷ xs) i h = let a = h 0 (omega arith) in let b = sum-some xs i (λ k l. h (suc k) (omega arith)) in omega (arith, ints)

at_most-sum : (xs : List (List ℤ)) (i : ℕ) → ((k : ℕ) → k < length xs → pos 0 ≤ℤ get_or (bidder_bundle xs k) i (pos 0)) → (k : ℕ) → k < length xs → get_or (bidder_bundle xs k) i (pos 0) ≤ℤ sum_at xs i
at_most-sum [] i h k l = absurd (omega arith)
at_most-sum (x ∷ xs) i h zero l = let b = sum-some xs i (λ k m. h (suc k) (omega arith)) in omega (arith, ints)
at_most-sum (x ∷ xs) i h (suc k) l = let a = h 0 (omega arith) in let b = at_most-sum xs i (λ j m. h (suc j) (omega arith)) k (omega arith) in omega (arith, ints)

-- amounts, good by good
pub amounts : (n : ℕ) (xs : List ℤ) → length xs ≡ n → ((i : ℕ) → i < n → IsAmount (get_or xs i (pos 0))) → AreAmounts n xs
amounts n xs e h = (e, λ k d l. let a = h k (omega arith) in let g = get_or_default xs k d (pos 0) l in (omega (arith, ints, a.0), omega (arith, ints, a.1)))

module _ (utilities : List (Vector → ℤ)) (supply reserve p : List ℤ) (bundles : List (List ℤ)) (returns : List ℤ) (some : 1 ≤ length supply)
    (stock : All IsAmount supply) (laws : KeepLaws (length supply) utilities) (c : Clears utilities supply reserve p bundles returns) where
  abbrev n : ℕ
  n = length supply

  bundle-some : (i : ℕ) → i < n → (k : ℕ) → k < length bundles → pos 0 ≤ℤ get_or (bidder_bundle bundles k) i (pos 0)
  bundle-some i h k l = let e = c.count in some-where_demanded n (bidder_utility utilities k) p (bidder_bundle bundles k) some (laws k (omega arith)) c.size (c.demanded k (omega arith)) i h

  -- from nothing to 1,000,000 of each good, as supplies are
  pub bundle-amounts : (k : ℕ) → k < length utilities → AreAmounts n (bidder_bundle bundles k)
  bundle-amounts k l =
      let e = c.count in
      amounts n (bidder_bundle bundles k) (c.sizes k l) (λ i h.
      let low = bundle-some i h k (omega arith) in
      let most = at_most-sum bundles i (bundle-some i h) k (omega arith) in
      let sum = c.sum i h in
      let kept = c.lawful.some i h in
      let t = stock i (pos 0) h in
      (low, omega (arith, ints, t.1)))

  pub return-amounts : AreAmounts n returns
  return-amounts = amounts n returns c.lawful.size (λ i h. let t = stock i (pos 0) h in let m = c.lawful.most i h in (c.lawful.some i h, omega (arith, ints, t.1)))
