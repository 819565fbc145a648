-- A demanded bundle has no less than nothing of any good.
use Rattle.std.proofs.Common.{◌≡◌, ◌≢◌, ℕ, zero, suc, ◌<◌, ◌≤◌, Bool, true, false, eqb, ℤ, pos, ◌+ℤ◌, ◌*ℤ◌, ◌≤ℤ◌, List, length, get_or, map, refl, sym, ap, ◌∙◌, arith}
use Rattle.std.proofs.lemmas.Int.{ints}
use Rattle.std.proofs.lemmas.Bool.Decides.{nat_tests}
use Rattle.std.proofs.lemmas.List.FromFn.{length-map-range_with_len, get_or-map-range_with_len}
use Rattle.std.specs.List.{range_with_len}
use Rattle.mix_num.specs.Vectors.{Vector, Agree, bit, only, plus, sum_to, dot_to, with_null}
use Rattle.mix_num.specs.Sums.{entries}
use Rattle.mix_num.proofs.Additions.{sum_to-one}
use Rattle.mix_num.proofs.Costs.{dot-is, dot-comm, dot_plus, dot_same}
use Rattle.mix_law.specs.Demands.{IsDemanded}
use Rattle.mix_law.specs.Members.{KeepsLaws}
use Rattle.mix_law.proofs.Ranges.{decreasing}

dot_by_entry : (m : ℕ) (x d : Vector) → dot_to m x d ≡ sum_to m (λ k. x k *ℤ d k)
dot_by_entry zero x d = refl
dot_by_entry (suc m) x d = ap (λ (a : ℤ). a +ℤ (x m *ℤ d m)) (dot_by_entry m x d)

times_bit : (a : ℤ) (b : Bool) → b ≡ false → a *ℤ bit b ≡ pos 0
times_bit a b e = ap (λ (c : Bool). a *ℤ bit c) e ∙ (let z : a *ℤ pos 0 ≡ pos 0 = omega (arith, ints) in z)

times_one_bit : (a : ℤ) (b : Bool) → b ≡ true → a *ℤ bit b ≡ a
times_one_bit a b e = ap (λ (c : Bool). a *ℤ bit c) e ∙ (let z : a *ℤ pos 1 ≡ a = omega (arith, ints) in z)

other_good : (k i : ℕ) → k ≢ i → eqb (suc k) (suc i) ≡ false
other_good k i h = grind (arith, nat_tests)

this_good : (i : ℕ) → eqb (suc i) (suc i) ≡ true
this_good i = grind (arith, nat_tests)

null_choice : (i : ℕ) → eqb 0 (suc i) ≡ false
null_choice i = grind (arith, nat_tests)

up_at : (a : ℤ) (b : Bool) → a ≤ℤ (a +ℤ bit b)
up_at a true = omega (arith, ints)
up_at a false = omega (arith, ints)

-- since a higher price of the good never makes the function rise
module _ (n : ℕ) (f : Vector → ℤ) (p bundle : List ℤ) (some : 1 ≤ n) (laws : KeepsLaws n f) (long : length p ≡ n) (demanded : IsDemanded n f p bundle) (i : ℕ) (h : i < n) where
  -- the good's price raised by one
  abbrev raised : Vector
  raised = plus (with_null p) (only (suc i))

  abbrev q : List ℤ
  q = map (λ k. raised (suc k)) (range_with_len 0 n)

  size : length q ≡ n
  size = length-map-range_with_len (λ k. raised (suc k)) 0 n

  same : Agree n (with_null q) raised
  same zero l = sym (ap (λ (b : Bool). pos 0 +ℤ bit b) (null_choice i))
  same (suc k) l = get_or-map-range_with_len (λ k. raised (suc k)) 0 n k k (pos 0) (omega arith) (omega arith)

  pub some-where_demanded : pos 0 ≤ℤ get_or bundle i (pos 0)
  some-where_demanded =
      let less = decreasing some laws.l_natural (with_null p) raised (λ k l. up_at (with_null p k) (eqb k (suc i))) in
      let reads = laws.l_natural.reads (with_null q) raised same in
      let d = demanded q size in
      let a = dot-is p bundle in
      let b = dot-is q bundle in
      let a2 = ap (λ (m : ℕ). dot_to m (entries p) (entries bundle)) long in
      let b2 = ap (λ (m : ℕ). dot_to m (entries q) (entries bundle)) size in
      let a3 = dot-comm n (entries p) (entries bundle) in
      let b3 = dot-comm n (entries q) (entries bundle) in
      let e = dot_same n (entries bundle) (entries q) (λ k. entries p k +ℤ bit (eqb (suc k) (suc i))) (λ k l. same (suc k) (omega arith)) in
      let g = dot_plus n (entries bundle) (entries p) (λ k. bit (eqb (suc k) (suc i))) in
      let t = dot_by_entry n (entries bundle) (λ k. bit (eqb (suc k) (suc i))) in
      let u = sum_to-one n i (λ k. entries bundle k *ℤ bit (eqb (suc k) (suc i))) h (λ k l ne. times_bit (entries bundle k) _ (other_good k i ne)) in
      let v = times_one_bit (entries bundle i) _ (this_good i) in
      omega (arith, ints)
