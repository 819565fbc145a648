-- What one good adds to each of the seller's sums.
use Rattle.std.proofs.Common.{◌≡◌, ◌≤◌, length, ℕ, suc, ◌+◌, Bool, List, ℤ, pos, ◌+ℤ◌, ◌-ℤ◌, ◌*ℤ◌, arith, ap, ap₂, ◌∙◌, add-one}
use Rattle.std.proofs.lemmas.Int.{ints, clamps}
use Rattle.std.specs.Int.{int_max}
use Rattle.mix_num.specs.Vectors.{Vector, Choices, bit, plus, minus, sum_to, with_null}
use Rattle.mix_num.specs.Ranges.{Lies}
use Rattle.mix_num.specs.Sellers.{IsForSale, unit_gain}
use Rattle.mix_num.proofs.Products.{*ℤ-difference}
use Rattle.mix_seller.specs.Laws.{amount_of}

-- no reserve lies further from 0 than a top may
pub reserve_lies : (supply reserve : List ℤ) → IsForSale supply reserve → (i : ℕ) → 1 ≤ i → i ≤ length supply → Lies 1000000 (with_null reserve i)
reserve_lies supply reserve s i l h = let a = amount_of (length supply) reserve s.reserves i l h in (omega (arith, ints, a.0), a.1)

pub next : (m : ℕ) (f : Vector) → sum_to (m + 1) f ≡ sum_to m f +ℤ f m
next m f = ap (λ z. sum_to z f) (add-one m)

-- one more good in a difference of two sums
pub next_difference : (m : ℕ) (t g h : Vector) (sum r : ℤ) → sum ≡ sum_to m (λ k. t k *ℤ g k) -ℤ sum_to m (λ k. t k *ℤ h k) → r ≡ t m *ℤ (g m -ℤ h m) → sum +ℤ r ≡ sum_to (m + 1) (λ k. t k *ℤ g k) -ℤ sum_to (m + 1) (λ k. t k *ℤ h k)
next_difference m t g h sum r e d =
    let a = next m (λ k. t k *ℤ g k) in
    let b = next m (λ k. t k *ℤ h k) in
    let p = *ℤ-difference (t m) (g m) (h m) in
    omega (arith, ints)

-- the good at place k: its supply t, its reserve r and its price p
module _ (supply reserve prices : List ℤ) (k : ℕ) (t r p : ℤ) (e : t ≡ with_null supply (suc k)) (d : r ≡ with_null reserve (suc k)) (q : p ≡ with_null prices (suc k)) where
  pub left_step : (u : ℤ) → u ≡ int_max (pos 0) (r -ℤ p) → t *ℤ u ≡ with_null supply (suc k) *ℤ unit_gain reserve (with_null prices) (suc k)
  left_step u h =
      let same : u ≡ unit_gain reserve (with_null prices) (suc k) = omega (arith, ints, clamps) in
      ap₂ ◌*ℤ◌ e same

  pub loss_step : (s : Choices) (test null good : Bool) → bit test ≡ int_max (pos 0) (r -ℤ p) -ℤ int_max (pos 0 -ℤ bit null) (r -ℤ (p +ℤ bit good)) → null ≡ s 0 → good ≡ s (k + 1) →
      t *ℤ bit test ≡ with_null supply (suc k) *ℤ (unit_gain reserve (with_null prices) (suc k) -ℤ unit_gain reserve (plus (with_null prices) s) (suc k))
  loss_step s test null good h i j =
      let a = ap bit i in
      let b = ap bit (j ∙ ap s (add-one k)) in
      let same : bit test ≡ unit_gain reserve (with_null prices) (suc k) -ℤ unit_gain reserve (plus (with_null prices) s) (suc k) = omega (arith, ints, clamps) in
      ap₂ ◌*ℤ◌ e same

  pub gain_step : (s : Choices) (test null good : Bool) → bit test ≡ int_max (bit null) (r -ℤ (p -ℤ bit good)) -ℤ int_max (pos 0) (r -ℤ p) → null ≡ s 0 → good ≡ s (k + 1) →
      t *ℤ bit test ≡ with_null supply (suc k) *ℤ (unit_gain reserve (minus (with_null prices) s) (suc k) -ℤ unit_gain reserve (with_null prices) (suc k))
  gain_step s test null good h i j =
      let a = ap bit i in
      let b = ap bit (j ∙ ap s (add-one k)) in
      let same : bit test ≡ unit_gain reserve (minus (with_null prices) s) (suc k) -ℤ unit_gain reserve (with_null prices) (suc k) = omega (arith, ints, clamps) in
      ap₂ ◌*ℤ◌ e same
