-- Sums of products, as of price times amount: what changes them, and what bundles cost together.
use Rattle.std.proofs.Common.{◌≡◌, ℕ, zero, suc, ◌≤◌, ◌<◌, ◌⊎◌, inl, inr, ℤ, pos, ◌+ℤ◌, ◌*ℤ◌, ◌≤ℤ◌, List, [], ◌∷◌, length, get_or, refl, sym, ap, subst, eq-or-lt_of_le, arith}
use Rattle.std.proofs.lemmas.Int.{ints}
use Rattle.std.proofs.Math.IntN.{*ℤ_comm}
use Rattle.mix_num.specs.Vectors.{Vector, dot_to, shifted, sum_to}
use Rattle.mix_num.specs.Sums.{entries, dot_of}
use Rattle.mix_num.specs.Shares.{sum_at}
use Rattle.mix_num.proofs.Products.{*ℤ-sum}

-- a linear function reads the first m entries
pub dot_same : (m : ℕ) (q x y : Vector) → ((k : ℕ) → k < m → x k ≡ y k) → dot_to m q x ≡ dot_to m q y
dot_same zero q x y h = refl
dot_same (suc m) q x y h =
    let a = dot_same m q x y (λ k l. h k (omega arith)) in
    let b = ap (λ z. q m *ℤ z) (h m (omega arith)) in
    omega (arith, ints)

-- it gains what is added to the entries
pub dot_plus : (m : ℕ) (q x d : Vector) → dot_to m q (λ k. x k +ℤ d k) ≡ dot_to m q x +ℤ dot_to m q d
dot_plus zero q x d = omega (arith, ints)
dot_plus (suc m) q x d = let a = dot_plus m q x d in let b = *ℤ-sum (q m) (x m) (d m) in omega (arith, ints)

pub dot_shifted : (m : ℕ) (q x : Vector) (k : ℤ) → dot_to m q (shifted x k) ≡ dot_to m q x +ℤ (k *ℤ sum_to m q)
dot_shifted zero q x k = omega (arith, ints)
dot_shifted (suc m) q x k =
    let a = dot_shifted m q x k in
    let b = *ℤ-sum (q m) (x m) k in
    let d = *ℤ-sum k (sum_to m q) (q m) in
    let e = *ℤ_comm k (q m) in
    omega (arith, ints)

pub dot-is : (q x : List ℤ) → dot_of q x ≡ dot_to (length q) (entries q) (entries x)
unfolding dot_of
dot-is q x = refl

pub dot-none : (m : ℕ) (q : Vector) → dot_to m q (λ k. pos 0) ≡ pos 0
dot-none zero q = refl
dot-none (suc m) q = let r = dot-none m q in let z : q m *ℤ pos 0 ≡ pos 0 = omega (arith, ints) in omega (arith, ints)

pub dot-comm : (m : ℕ) (x y : Vector) → dot_to m x y ≡ dot_to m y x
dot-comm zero x y = refl
dot-comm (suc m) x y = let a = dot-comm m x y in let b = *ℤ_comm (x m) (y m) in omega (arith, ints)

-- where each product is no more, the sum isn't
pub dot-grows : (m : ℕ) (p q y : Vector) → ((k : ℕ) → k < m → (q k *ℤ y k) ≤ℤ (p k *ℤ y k)) → dot_to m q y ≤ℤ dot_to m p y
dot-grows zero p q y h = omega (arith, ints)
dot-grows (suc m) p q y h = let a = dot-grows m p q y (λ k l. h k (omega arith)) in let b = h m (omega arith) in omega (arith, ints)

-- and where the sums are the same, the products are the same one by one
pub dot-alike : (m : ℕ) (p q y : Vector) → ((k : ℕ) → k < m → (q k *ℤ y k) ≤ℤ (p k *ℤ y k)) → dot_to m p y ≤ℤ dot_to m q y → (k : ℕ) → k < m → (p k *ℤ y k) ≤ℤ (q k *ℤ y k)
dot-alike zero p q y h e k l = absurd (omega arith)
dot-alike (suc m) p q y h e k l = at (eq-or-lt_of_le (let le : k ≤ m = omega arith in le)) (λ i. dot-alike m p q y (λ j r. h j (omega arith)) (let b = h m (omega arith) in omega (arith, ints)) k i)
  where
    at : (k ≡ m) ⊎ (k < m) → (k < m → (p k *ℤ y k) ≤ℤ (q k *ℤ y k)) → (p k *ℤ y k) ≤ℤ (q k *ℤ y k)
    at (inl i) rest =
        let a = dot-grows m p q y (λ j r. h j (omega arith)) in
        let last : (p m *ℤ y m) ≤ℤ (q m *ℤ y m) = omega (arith, ints) in
        let P : ℕ → Type 0 = λ j. (p j *ℤ y j) ≤ℤ (q j *ℤ y j) in
        subst P (sym i) last
    at (inr i) rest = rest i

-- the cost of all bundles
abbrev pub cost_of : List ℤ → List (List ℤ) → ℤ
cost_of q [] = pos 0
cost_of q (x ∷ xs) = dot_of q x +ℤ cost_of q xs

pub cost-is : (q : List ℤ) (xs : List (List ℤ)) → cost_of q xs ≡ dot_to (length q) (entries q) (λ i. sum_at xs i)
cost-is q [] = sym (dot-none (length q) (entries q))
cost-is q (x ∷ xs) =
    let a = dot-is q x in
    let b = cost-is q xs in
    let d = dot_plus (length q) (entries q) (entries x) (λ i. sum_at xs i) in
    omega (arith, ints)

-- bundles and what is kept cost what the supply does
pub cost-of_supply : (q supply : List ℤ) (xs : List (List ℤ)) (kept : List ℤ) → length q ≡ length supply → ((i : ℕ) → i < length supply → sum_at xs i +ℤ get_or kept i (pos 0) ≡ get_or supply i (pos 0))
    → cost_of q xs +ℤ dot_of q kept ≡ dot_of q supply
cost-of_supply q supply xs kept long sum =
    let a = cost-is q xs in
    let b = dot-is q kept in
    let d = dot-is q supply in
    let e = dot_plus (length q) (entries q) (λ i. sum_at xs i) (entries kept) in
    let s = dot_same (length q) (entries q) (λ i. sum_at xs i +ℤ entries kept i) (entries supply) (λ i l. sum i (omega arith)) in
    omega (arith, ints)
