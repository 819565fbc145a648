-- The seller's function keeps the laws of a member: one good at a time, then the sum of the goods.
use Rattle.std.specs.Prelude.{◌≡◌, ◌≢◌, ℕ, zero, suc, ◌≤◌, Bool, true, false, eqb, List, ℤ, pos, ◌+ℤ◌, ◌-ℤ◌, ◌*ℤ◌, ◌≤ℤ◌, refl, length}
use Rattle.std.specs.Int.{int_max}
use Rattle.std.proofs.Common.{arith, ap, subst, ◌∙◌}
use Rattle.std.proofs.Math.IntN.{*ℤ_comm, zero-*ℤ}
use Rattle.std.proofs.lemmas.Bool.Decides.{nat_tests}
use Rattle.std.proofs.lemmas.Int.{ints, clamps}
use Rattle.std.proofs.lemmas.List.Elements.{All-get_or}
use Rattle.mix_num.specs.Vectors.{bit, plus, only, shifted, sum_to, with_null}
use Rattle.mix_num.specs.Sellers.{IsAmount, AreAmounts, IsForSale, unit_gain, units, seller_gain}
use Rattle.mix_num.proofs.Products.{*ℤ-sum, *ℤ-difference, product_grows, product_nonnegative}
use Rattle.mix_law.specs.Members.{IsLNatural, excess}
use Rattle.mix_law.specs.Sums.{sum_with_tops}
use Rattle.mix_law.proofs.Ranges.{excess_covers, excess_nonnegative}

-- the greater of -a and r - b, at steps p, q of a and s, t of b, of which one at most is taken each
unit_local : (a b r p q s t : ℤ) → pos 0 ≤ℤ p → pos 0 ≤ℤ q → (p +ℤ q) ≤ℤ pos 1 → pos 0 ≤ℤ s → pos 0 ≤ℤ t → (s +ℤ t) ≤ℤ pos 1 →
    (int_max (pos 0 -ℤ a) (r -ℤ b) +ℤ int_max (pos 0 -ℤ ((a +ℤ p) +ℤ q)) (r -ℤ ((b +ℤ s) +ℤ t))) ≤ℤ (int_max (pos 0 -ℤ (a +ℤ p)) (r -ℤ (b +ℤ s)) +ℤ int_max (pos 0 -ℤ (a +ℤ q)) (r -ℤ (b +ℤ t)))
unit_local a b r p q s t h k l m o e = omega (arith, ints, clamps)

bit_nonnegative : (b : Bool) → pos 0 ≤ℤ bit b
bit_nonnegative true = omega (arith, ints)
bit_nonnegative false = omega (arith, ints)

-- no choice is two different ones
one_of : (k i j : ℕ) → i ≢ j → (bit (eqb k i) +ℤ bit (eqb k j)) ≤ℤ pos 1
one_of k i j e = step (eqb k i) (eqb k j) (λ p q. grind (arith, nat_tests))
  where
    step : (b d : Bool) → (b ≡ true → d ≡ true → ⊥) → (bit b +ℤ bit d) ≤ℤ pos 1
    step true true h = absurd (h refl refl)
    step true false h = omega (arith, ints)
    step false true h = omega (arith, ints)
    step false false h = omega (arith, ints)

-- a good that isn't the null choice, raised, leaves the null choice alone
null_still : (j : ℕ) → 1 ≤ j → bit (eqb 0 j) ≡ pos 0
null_still j h = step (eqb 0 j) (λ p. grind (arith, nat_tests))
  where
    step : (b : Bool) → (b ≡ true → ⊥) → bit b ≡ pos 0
    step true f = absurd (f refl)
    step false f = refl

-- at a price that leaves no more than the null choice a raise loses nothing
unit_far : (a b r : ℤ) (s : Bool) → (s ≡ true → r ≤ℤ (b -ℤ a)) → int_max (pos 0 -ℤ a) (r -ℤ (b +ℤ bit s)) ≡ int_max (pos 0 -ℤ a) (r -ℤ b)
unit_far a b r true h = let k = h refl in omega (arith, ints, clamps)
unit_far a b r false h = omega (arith, ints, clamps)

same_choice : (i j : ℕ) → eqb i j ≡ true → j ≡ i
same_choice i j e = grind (arith, nat_tests)

-- one good of n, with its supply
one_good : (n i : ℕ) (reserve : List ℤ) (t : ℤ) → 1 ≤ i → i ≤ n → pos 0 ≤ℤ t → IsLNatural n (λ x. t *ℤ unit_gain reserve x i) t (with_null reserve)
one_good n i reserve t l h p = record {
  reads = λ x y a.
      let null = a 0 (omega arith) in
      let good = a i h in
      let same : unit_gain reserve x i ≡ unit_gain reserve y i = omega (arith, ints, clamps) in
      ap (λ z. t *ℤ z) same;
  shift = λ x k.
      let e : unit_gain reserve (shifted x k) i ≡ unit_gain reserve x i -ℤ k = omega (arith, ints, clamps) in
      let q = ap (λ z. t *ℤ z) e in
      let d = *ℤ-difference t (unit_gain reserve x i) k in
      let m = *ℤ_comm t k in
      omega (arith, ints);
  local = λ x j k a b e.
      let u = unit_local (x 0) (x i) (with_null reserve i) (bit (eqb 0 j)) (bit (eqb 0 k)) (bit (eqb i j)) (bit (eqb i k)) (bit_nonnegative (eqb 0 j)) (bit_nonnegative (eqb 0 k)) (one_of 0 j k e) (bit_nonnegative (eqb i j)) (bit_nonnegative (eqb i k)) (one_of i j k e) in
      let base = unit_gain reserve x i in
      let twice = unit_gain reserve (plus (plus x (only j)) (only k)) i in
      let first = unit_gain reserve (plus x (only j)) i in
      let second = unit_gain reserve (plus x (only k)) i in
      let g = product_grows t (base +ℤ twice) (first +ℤ second) p u in
      let v = *ℤ-sum t base twice in
      let w = *ℤ-sum t first second in
      omega (arith, ints);
  far = λ x j a b q.
      let null = null_still j a in
      let P : ℕ → Type 0 = λ k. with_null reserve k ≤ℤ (x k -ℤ x 0) in
      let u = unit_far (x 0) (x i) (with_null reserve i) (eqb i j) (λ e. subst P (same_choice i j e) q) in
      let same : unit_gain reserve (plus x (only j)) i ≡ unit_gain reserve x i = ap (λ z. int_max (pos 0 -ℤ (x 0 +ℤ z)) (with_null reserve i -ℤ (x i +ℤ bit (eqb i j)))) null ∙ zero_more (x 0) (with_null reserve i -ℤ (x i +ℤ bit (eqb i j))) ∙ u in
      ap (λ z. t *ℤ z) same;
  size = λ x z.
      let c = excess_covers n (with_null reserve) x i l h in
      let e = excess_nonnegative n (with_null reserve) x in
      let low : pos 0 ≤ℤ unit_gain reserve x i = omega (arith, ints, clamps) in
      (product_nonnegative t (unit_gain reserve x i) p low, product_grows t (unit_gain reserve x i) _ p (omega (arith, ints, clamps)));
}
  where
    zero_more : (a b : ℤ) → int_max (pos 0 -ℤ (a +ℤ pos 0)) b ≡ int_max (pos 0 -ℤ a) b
    zero_more a b = omega (arith, ints, clamps)

-- no good
none : (n : ℕ) (top : ℕ → ℤ) → IsLNatural n (λ x. pos 0) (pos 0) top
none n top = record {
  reads = λ x y a. refl;
  shift = λ x k. let e = *ℤ_comm k (pos 0) in let z = zero-*ℤ k in omega (arith, ints);
  local = λ x i j a b e. omega (arith, ints);
  far = λ x i a b h. refl;
  size = λ x z. (omega (arith, ints), omega (arith, ints, zero-*ℤ (excess n top x)));
}

-- the first m goods of n
first_goods : (n m : ℕ) (supply reserve : List ℤ) → m ≤ n → ((i : ℕ) → 1 ≤ i → i ≤ n → pos 0 ≤ℤ with_null supply i) →
    IsLNatural n (λ x. sum_to m (λ k. with_null supply (suc k) *ℤ unit_gain reserve x (suc k))) (sum_to m (λ k. with_null supply (suc k))) (with_null reserve)
first_goods n zero supply reserve h p = none n (with_null reserve)
first_goods n (suc m) supply reserve h p =
    sum_with_tops (with_null reserve) (λ i. omega (arith, ints)) (λ i. omega (arith, ints))
    (first_goods n m supply reserve (omega arith) p)
    (one_good n (suc m) reserve (with_null supply (suc m)) (omega arith) h (p (suc m) (omega arith) h))

-- the amount of a good
pub amount_of : (n : ℕ) (xs : List ℤ) → AreAmounts n xs → (i : ℕ) → 1 ≤ i → i ≤ n → IsAmount (with_null xs i)
amount_of n xs a zero l h = absurd (omega arith)
amount_of n xs a (suc i) l h = All-get_or IsAmount _ _ _ (omega (arith, a.0)) a.1

pub seller_l_natural : (supply reserve : List ℤ) → IsForSale supply reserve → IsLNatural (length supply) (seller_gain supply reserve) (units supply) (with_null reserve)
seller_l_natural supply reserve s = first_goods (length supply) (length supply) supply reserve (omega arith) (λ i l h. (amount_of (length supply) supply s.supplies i l h).0)
