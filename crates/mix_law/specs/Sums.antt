-- The sum of two members' functions keeps the laws, with the greater top of each good.
use Rattle.std.specs.Prelude.{◌≡◌, ℕ, zero, suc, ℤ, ◌+ℤ◌, ◌*ℤ◌, ◌≤ℤ◌}
use Rattle.std.specs.Int.{int_max}
use Rattle.std.proofs.Common.{arith, subst, sym}
use Rattle.std.proofs.lemmas.Int.{ints, clamps}
use Rattle.mix_num.specs.Vectors.{Vector}
use Rattle.mix_num.proofs.Products.{*ℤ-sum, sum-*ℤ, product_grows}
use Rattle.mix_law.specs.Members.{IsLNatural, excess}
use Rattle.mix_law.specs.Totals.{total_nonnegative}

-- the greater top of each good
abbrev pub greater_top : (ℕ → ℤ) → (ℕ → ℤ) → ℕ → ℤ
greater_top s t i = int_max (s i) (t i)

-- the excess over greater tops is no smaller
excess_grows : (n : ℕ) (s t : ℕ → ℤ) (x : Vector) → ((i : ℕ) → s i ≤ℤ t i) → excess n s x ≤ℤ excess n t x
excess_grows zero s t x h = omega (arith, ints)
excess_grows (suc n) s t x h =
    let r = excess_grows n s t x h in
    let q = h (suc n) in
    omega (arith, ints, clamps)

-- and no smaller where a total multiplies it
total_excess : (n : ℕ) {f : Vector → ℤ} {v : ℤ} {s : ℕ → ℤ} (t : ℕ → ℤ) (x : Vector) → ((i : ℕ) → s i ≤ℤ t i) → IsLNatural n f v s → (v *ℤ excess n s x) ≤ℤ (v *ℤ excess n t x)
total_excess zero t x h c = omega (arith, ints)
total_excess (suc n) {v} {s} t x h c = product_grows v (excess (suc n) s x) (excess (suc n) t x) (total_nonnegative (omega arith) c) (excess_grows (suc n) s t x h)

-- two functions over the same goods, with tops that are no smaller than those of either
pub sum_with_tops : {n : ℕ} {f g : Vector → ℤ} {v w : ℤ} {s t : ℕ → ℤ} (u : ℕ → ℤ) → ((i : ℕ) → s i ≤ℤ u i) → ((i : ℕ) → t i ≤ℤ u i) → IsLNatural n f v s → IsLNatural n g w t → IsLNatural n (λ x. f x +ℤ g x) (v +ℤ w) u
sum_with_tops {n} {f} {g} {v} {w} {s} {t} u over also c d = record {
  reads = λ x y a. let p = c.reads x y a in let q = d.reads x y a in omega (arith, ints);
  shift = λ x k. let p = c.shift x k in let q = d.shift x k in let r = *ℤ-sum k v w in omega (arith, ints);
  local = λ x i j a b h. let p = c.local x i j a b h in let q = d.local x i j a b h in omega (arith, ints);
  far = λ x i a b h.
      let k = over i in
      let l = also i in
      let p = c.far x i a b (omega (arith, ints)) in
      let q = d.far x i a b (omega (arith, ints)) in
      omega (arith, ints);
  size = λ x z.
      let p = c.size x z in
      let q = d.size x z in
      let e = total_excess n u x over c in
      let h = total_excess n u x also d in
      let r = sum-*ℤ v w (excess n u x) in
      (omega (arith, ints, p.0, q.0), omega (arith, ints, p.1, q.1));
}

pub sum_l_natural : {n m : ℕ} {f g : Vector → ℤ} {v w : ℤ} {s t : ℕ → ℤ} → n ≡ m → IsLNatural n f v s → IsLNatural m g w t → IsLNatural n (λ x. f x +ℤ g x) (v +ℤ w) (greater_top s t)
sum_l_natural {n} {m} {f} {g} {v} {w} {s} {t} e c d =
    let P : ℕ → Type 0 = λ k. IsLNatural k g w t in
    sum_with_tops (greater_top s t) (λ i. omega (arith, ints, clamps)) (λ i. omega (arith, ints, clamps)) c (subst P (sym e) d)
