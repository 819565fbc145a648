-- The seller's function falls equally along a set of goods until a price meets its reserve.
use Rattle.std.proofs.Common.{◌≡◌, ℕ, zero, suc, ◌+◌, ◌<◌, ◌⊎◌, inl, inr, eq-or-lt_of_le, Bool, true, false, cond, int_lt, List, ℤ, pos, ◌+ℤ◌, ◌-ℤ◌, ◌*ℤ◌, ◌≤ℤ◌, ◌<ℤ◌, refl, arith, sym, ap, ap₂, ◌∙◌, length, add-one}
use Rattle.std.proofs.lemmas.Int.{ints, clamps}
use Rattle.std.proofs.Math.IntN.{*ℤ_comm, zero-*ℤ}
use Rattle.std.specs.Int.{int_min, int_max}
use Rattle.mix_num.specs.Vectors.{Vector, Choices, bit, plus, ray, sum_to, with_null}
use Rattle.mix_num.specs.Sellers.{IsForSale, unit_gain, seller_gain}
use Rattle.mix_num.proofs.Products.{*ℤ-sum, *ℤ-difference}
use Rattle.mix_law.specs.Members.{fall_of}
use Rattle.mix_seller.specs.Laws.{amount_of}
use Rattle.mix_seller.specs.Reaches.{good_reach, least_to, seller_reach}

-- a number that falls by m where it falls by one at a step, times an amount
falls_by : (t u v w : ℤ) (m : ℕ) → v ≡ u -ℤ pos m → w ≡ u -ℤ pos 1 → t *ℤ v ≡ (t *ℤ u) -ℤ (pos m *ℤ (t *ℤ (u -ℤ w)))
falls_by t u v w m e d =
    let one : u -ℤ w ≡ pos 1 = omega (arith, ints) in
    let a = ap (λ (z : ℤ). t *ℤ z) one in
    let b : t *ℤ pos 1 ≡ t = omega (arith, ints) in
    let c = ap (λ (z : ℤ). pos m *ℤ z) (a ∙ b) in
    let f = ap (λ (z : ℤ). t *ℤ z) e in
    let g = *ℤ-difference t u (pos m) in
    let h = *ℤ_comm t (pos m) in
    omega (arith, ints)

stays : (t u v w : ℤ) (m : ℕ) → v ≡ u → w ≡ u → t *ℤ v ≡ (t *ℤ u) -ℤ (pos m *ℤ (t *ℤ (u -ℤ w)))
stays t u v w m e d =
    let none : u -ℤ w ≡ pos 0 = omega (arith, ints) in
    let a = ap (λ (z : ℤ). t *ℤ z) none in
    let b : t *ℤ pos 0 ≡ pos 0 = omega (arith, ints) in
    let c = ap (λ (z : ℤ). pos m *ℤ z) (a ∙ b) in
    let z : pos m *ℤ pos 0 ≡ pos 0 = omega (arith, ints) in
    let f = ap (λ (z : ℤ). t *ℤ z) e in
    omega (arith, ints)

nothing : (t u v w : ℤ) (m : ℕ) → t ≡ pos 0 → t *ℤ v ≡ (t *ℤ u) -ℤ (pos m *ℤ (t *ℤ (u -ℤ w)))
nothing t u v w m e =
    let a = ap (λ (z : ℤ). z *ℤ v) e ∙ zero-*ℤ v in
    let b = ap (λ (z : ℤ). z *ℤ u) e ∙ zero-*ℤ u in
    let c = ap (λ (z : ℤ). pos m *ℤ z) (ap (λ (z : ℤ). z *ℤ (u -ℤ w)) e ∙ zero-*ℤ (u -ℤ w)) in
    let z : pos m *ℤ pos 0 ≡ pos 0 = omega (arith, ints) in
    omega (arith, ints)

-- one good: its amount t, its reserve r and its price a
good_falls : (t r a o : ℤ) (null b : Bool) (m : ℕ) → pos 0 ≤ℤ t → o ≡ pos 0 → null ≡ false → pos m ≤ℤ good_reach b t r a
    → t *ℤ int_max (pos 0 -ℤ (o +ℤ cond null (pos m) (pos 0))) (r -ℤ (a +ℤ cond b (pos m) (pos 0)))
    ≡ (t *ℤ int_max (pos 0 -ℤ o) (r -ℤ a)) -ℤ (pos m *ℤ (t *ℤ (int_max (pos 0 -ℤ o) (r -ℤ a) -ℤ int_max (pos 0 -ℤ (o +ℤ bit null)) (r -ℤ (a +ℤ bit b)))))
good_falls t r a o true b m p z n few = absurd (no n)
  where
    no : true ≡ false → ⊥
    no e = cc
good_falls t r a o false false m p z n few = stays t _ _ _ m (omega (arith, ints, clamps)) (omega (arith, ints, clamps))
good_falls t r a o false true m p z n few = at (int_lt (pos 0) t) refl (int_lt a r) refl
  where
    at : (c : Bool) → int_lt (pos 0) t ≡ c → (d : Bool) → int_lt a r ≡ d → t *ℤ int_max (pos 0 -ℤ (o +ℤ pos 0)) (r -ℤ (a +ℤ pos m)) ≡ (t *ℤ int_max (pos 0 -ℤ o) (r -ℤ a)) -ℤ (pos m *ℤ (t *ℤ (int_max (pos 0 -ℤ o) (r -ℤ a) -ℤ int_max (pos 0 -ℤ (o +ℤ pos 0)) (r -ℤ (a +ℤ pos 1)))))
    at true e true f =
        let less : a <ℤ r = grind (arith, ints) in
        let span : good_reach true t r a ≡ r -ℤ a = ap₂ (λ (c d : Bool). cond c (cond d (r -ℤ a) (pos 8000000)) (pos 8000000)) e f in
        let small : pos m ≤ℤ (r -ℤ a) = omega (arith, ints) in
        falls_by t _ _ _ m (omega (arith, ints, clamps)) (omega (arith, ints, clamps))
    at true e false f =
        let more : r ≤ℤ a = grind (arith, ints) in
        stays t _ _ _ m (omega (arith, ints, clamps)) (omega (arith, ints, clamps))
    at false e d f =
        let none : t ≤ℤ pos 0 = grind (arith, ints) in
        nothing t _ _ _ m (omega (arith, ints))

-- the sum over the goods
sum_falls : (j m : ℕ) (t u v w : Vector) → ((k : ℕ) → k < j → t k *ℤ v k ≡ (t k *ℤ u k) -ℤ (pos m *ℤ (t k *ℤ (u k -ℤ w k))))
    → sum_to j (λ k. t k *ℤ v k) ≡ sum_to j (λ k. t k *ℤ u k) -ℤ (pos m *ℤ (sum_to j (λ k. t k *ℤ u k) -ℤ sum_to j (λ k. t k *ℤ w k)))
sum_falls zero m t u v w h = let z : pos m *ℤ pos 0 ≡ pos 0 = omega (arith, ints) in omega (arith, ints)
sum_falls (suc j) m t u v w h =
    let rest = sum_falls j m t u v w (λ k l. h k (omega arith)) in
    let one = h j (omega arith) in
    let a = *ℤ-difference (t j) (u j) (w j) in
    let first = sum_to j (λ k. t k *ℤ u k) in
    let second = sum_to j (λ k. t k *ℤ w k) in
    let b = *ℤ-sum (pos m) (first -ℤ second) (t j *ℤ (u j -ℤ w j)) in
    let c : (first +ℤ (t j *ℤ u j)) -ℤ (second +ℤ (t j *ℤ w j)) ≡ (first -ℤ second) +ℤ (t j *ℤ (u j -ℤ w j)) = omega (arith, ints) in
    let d = ap (λ (z : ℤ). pos m *ℤ z) c in
    omega (arith, ints)

least_below : (m : ℕ) (f : ℕ → ℤ) (v : ℤ) → v ≤ℤ least_to m f → (k : ℕ) → k < m → v ≤ℤ f k
least_below zero f v h k l = absurd (omega arith)
least_below (suc m) f v h k l = at (eq-or-lt_of_le (omega arith)) (λ q. least_below m f v (omega (arith, ints, clamps)) k q)
  where
    at : (k ≡ m) ⊎ (k < m) → (k < m → v ≤ℤ f k) → v ≤ℤ f k
    at (inl e) rest = let same = ap f e in omega (arith, ints, clamps)
    at (inr q) rest = rest q

pub seller_falls : (supply reserve : List ℤ) (x : Vector) (s : Choices) (m : ℕ) → IsForSale supply reserve → x 0 ≡ pos 0 → s 0 ≡ false → pos m ≤ℤ seller_reach supply reserve x s
    → seller_gain supply reserve (ray x m s) ≡ seller_gain supply reserve x -ℤ (pos m *ℤ fall_of (seller_gain supply reserve) x s)
seller_falls supply reserve x s m sale null goods few =
    sum_falls (length supply) m (λ k. with_null supply (suc k)) (λ k. unit_gain reserve x (suc k)) (λ k. unit_gain reserve (ray x m s) (suc k)) (λ k. unit_gain reserve (plus x s) (suc k))
    (λ k l. good_falls (with_null supply (suc k)) (with_null reserve (suc k)) (x (suc k)) (x 0) (s 0) (s (suc k)) m (amount_of (length supply) supply sale.supplies (suc k) (omega arith) (omega arith)).0 null goods
    (least_below (length supply) (λ j. good_reach (s (suc j)) (with_null supply (suc j)) (with_null reserve (suc j)) (x (suc j))) (pos m) few k l))

-- one good more
pub least_next : (m : ℕ) (f : ℕ → ℤ) (least own r : ℤ) → least ≡ least_to m f → own ≡ f m → r ≡ int_min least own → r ≡ least_to (m + 1) f
least_next m f least own r e d h = h ∙ ap₂ int_min e d ∙ ap (λ (k : ℕ). least_to k f) (sym (add-one m))
