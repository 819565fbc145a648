-- Sums over goods and over sets: one entry more at the end, one entry less at the front, and how far they lie from 0.
use Rattle.std.proofs.Common.{◌≡◌, ℕ, zero, suc, ◌+◌, ◌-◌, ◌*◌, ◌^◌, ◌/◌, ◌%◌, ◌≤◌, ◌<◌, Bool, true, false, cond, eqb, List, [], ◌∷◌, ℤ, pos, negsuc, ◌+ℤ◌, ◌-ℤ◌, ◌*ℤ◌, ◌≤ℤ◌, length, get_or, refl, sym, ap, ap₂, ◌∙◌, arith, add-one, ◌≢◌, ⊎_elim, eq-or-lt_of_le}
use Rattle.std.proofs.lemmas.Int.{ints, unsigned_abs-mul}
use Rattle.std.proofs.Math.Nat.{mul-le-mul}
use Rattle.std.specs.Int.RustNames.{unsigned_abs}
use Rattle.std.proofs.lemmas.Nat.Bits.{bit_at-suc, bit_at_lowest}
use Rattle.mix_num.specs.Vectors.{Vector, sum_to, dot_to, members}
use Rattle.mix_num.specs.Ranges.{Lies}
use Rattle.mix_num.proofs.Masks.{goods_members}
use Rattle.mix_num.specs.Sums.{entries, total, sum_in, dot_of}

pub sum_to-front : (m : ℕ) (x : Vector) → sum_to (suc m) x ≡ x 0 +ℤ sum_to m (λ k. x (suc k))
sum_to-front zero x = omega (arith, ints)
sum_to-front (suc m) x = omega (arith, ints, sum_to-front m x)

pub sum_to-same : (m : ℕ) (x y : Vector) → ((k : ℕ) → k < m → x k ≡ y k) → sum_to m x ≡ sum_to m y
sum_to-same zero x y h = refl
sum_to-same (suc m) x y h = ap₂ (λ (a b : ℤ). a +ℤ b) (sum_to-same m x y (λ k l. h k (omega arith))) (h m (omega arith))

pub dot_to-front : (m : ℕ) (x y : Vector) → dot_to (suc m) x y ≡ (x 0 *ℤ y 0) +ℤ dot_to m (λ k. x (suc k)) (λ k. y (suc k))
dot_to-front zero x y = omega (arith, ints)
dot_to-front (suc m) x y = omega (arith, ints, dot_to-front m x y)

pub sum_to-zero : (m : ℕ) (x : Vector) → ((k : ℕ) → k < m → x k ≡ pos 0) → sum_to m x ≡ pos 0
sum_to-zero zero x h = refl
sum_to-zero (suc m) x h = let a = sum_to-zero m x (λ k l. h k (omega arith)) in let b = h m (omega arith) in omega (arith, ints)

pub sum_to-grows : (m : ℕ) (x y : Vector) → ((k : ℕ) → k < m → x k ≤ℤ y k) → sum_to m x ≤ℤ sum_to m y
sum_to-grows zero x y h = omega (arith, ints)
sum_to-grows (suc m) x y h = let a = sum_to-grows m x y (λ k l. h k (omega arith)) in let b = h m (omega arith) in omega (arith, ints)

pub sum_to-difference : (m : ℕ) (x y : Vector) → sum_to m (λ k. x k -ℤ y k) ≡ sum_to m x -ℤ sum_to m y
sum_to-difference zero x y = refl
sum_to-difference (suc m) x y = let a = sum_to-difference m x y in omega (arith, ints)

-- the sum of a vector that is 0 but for one entry
pub sum_to-one : (m i : ℕ) (x : Vector) → i < m → ((k : ℕ) → k < m → k ≢ i → x k ≡ pos 0) → sum_to m x ≡ x i
sum_to-one zero i x l h = absurd (omega arith)
sum_to-one (suc m) i x l h = ⊎_elim
    (λ (e : i ≡ m). let a = sum_to-zero m x (λ k q. h k (omega arith) (omega arith)) in let b = ap x e in omega (arith, ints))
    (λ (q : i < m). let a = sum_to-one m i x q (λ k r. h k (omega arith)) in let b = h m (omega arith) (omega arith) in omega (arith, ints))
    (eq-or-lt_of_le (let le : i ≤ m = omega arith in le))

-- ---- one entry less at the front
pub total-none : total [] ≡ pos 0
unfolding total
total-none = refl

pub total-cons : (x : ℤ) (xs : List ℤ) → total (x ∷ xs) ≡ x +ℤ total xs
unfolding total
total-cons x xs = sum_to-front (length xs) (entries (x ∷ xs))

members-suc : (set k : ℕ) → members set (suc k) ≡ members (set / 2) k
members-suc set k = ap (λ (b : ℕ). eqb b 1) (bit_at-suc set k)

members-zero : (set : ℕ) → members set 0 ≡ eqb (set % 2) 1
members-zero set = ap (λ (b : ℕ). eqb b 1) (bit_at_lowest set)

pub sum_in-none : (set : ℕ) → sum_in [] set ≡ pos 0
unfolding sum_in
sum_in-none set = refl

-- the lowest bit decides of the first entry, and the half of the number is the set of the others
pub sum_in-cons : (x : ℤ) (xs : List ℤ) (set : ℕ) → sum_in (x ∷ xs) set ≡ cond (eqb (set % 2) 1) x (pos 0) +ℤ sum_in xs (set / 2)
unfolding sum_in
sum_in-cons x xs set =
    sum_to-front (length xs) (λ k. cond (members set k) (entries (x ∷ xs) k) (pos 0))
    ∙ ap₂ (λ (a b : ℤ). a +ℤ b) (ap (λ (b : Bool). cond b x (pos 0)) (members-zero set))
    (sum_to-same (length xs) _ _ (λ k l. ap (λ (b : Bool). cond b (entries xs k) (pos 0)) (members-suc set k)))

pub sum_in-front : (x : ℤ) (xs : List ℤ) (set : ℕ)
    → sum_in (x ∷ xs) set ≡ cond (members set 0) x (pos 0) +ℤ sum_to (length xs) (λ k. cond (members set (suc k)) (entries xs k) (pos 0))
unfolding sum_in
sum_in-front x xs set = sum_to-front (length xs) (λ k. cond (members set k) (entries (x ∷ xs) k) (pos 0))

pub total-is : (xs : List ℤ) → total xs ≡ sum_to (length xs) (entries xs)
unfolding total
total-is xs = refl

-- the sum over all goods is the total
pub sum_in-goods : (n : ℕ) (xs : List ℤ) → length xs ≡ n → sum_in (pos 0 ∷ xs) (2 ^ (n + 1) - 2) ≡ total xs
unfolding sum_in total
sum_in-goods n xs e =
    sum_to-front (length xs) (λ k. cond (members (2 ^ (n + 1) - 2) k) (entries (pos 0 ∷ xs) k) (pos 0))
    ∙ ap₂ (λ (a b : ℤ). a +ℤ b) (nothing (members (2 ^ (n + 1) - 2) 0))
    (sum_to-same (length xs) _ (entries xs) (λ k l. ap (λ (b : Bool). cond b (entries xs k) (pos 0)) (goods_members n (suc k) (omega arith) (omega arith))))
    ∙ none (sum_to (length xs) (entries xs))
  where
    nothing : (b : Bool) → cond b (pos 0) (pos 0) ≡ pos 0
    nothing true = refl
    nothing false = refl

    none : (a : ℤ) → pos 0 +ℤ a ≡ a
    none a = omega (arith, ints)

-- what a sum over the set of all goods gives
pub sum-all_goods : (xs : List ℤ) (n set : ℕ) (sum : ℤ) → n ≡ length xs → set ≡ 2 ^ (n + 1) - 2 → sum ≡ sum_in (pos 0 ∷ xs) set → sum ≡ total xs
sum-all_goods xs n set sum e f h = h ∙ ap (λ (k : ℕ). sum_in (pos 0 ∷ xs) k) f ∙ sum_in-goods n xs (sym e)

-- ---- one entry more at the end, for loops
unfoldable pub total_of_first : ℕ → List ℤ → ℤ
total_of_first m xs = sum_to m (entries xs)

pub total_of_first-none : (xs : List ℤ) → total_of_first 0 xs ≡ pos 0
unfolding total_of_first
total_of_first-none xs = refl

pub total_of_first-more : (m : ℕ) (xs : List ℤ) → total_of_first (m + 1) xs ≡ total_of_first m xs +ℤ get_or xs m (pos 0)
unfolding total_of_first
total_of_first-more m xs = rw add-one refl

pub total_of_first-all : (m : ℕ) (xs : List ℤ) → m ≡ length xs → total_of_first m xs ≡ total xs
unfolding total_of_first total
total_of_first-all m xs e = ap (λ (k : ℕ). sum_to k (entries xs)) e

unfoldable pub sum_of_first : ℕ → List ℤ → ℕ → ℤ
sum_of_first m xs set = sum_to m (λ k. cond (members set k) (entries xs k) (pos 0))

pub sum_of_first-null : (null : ℤ) (xs : List ℤ) (set : ℕ) → sum_of_first 1 (null ∷ xs) set ≡ cond (members set 0) null (pos 0)
unfolding sum_of_first
sum_of_first-null null xs set = omega (arith, ints)

pub sum_of_first-more : (m : ℕ) (null : ℤ) (xs : List ℤ) (set : ℕ)
    → sum_of_first (m + 1 + 1) (null ∷ xs) set ≡ sum_of_first (m + 1) (null ∷ xs) set +ℤ cond (members set (m + 1)) (get_or xs m (pos 0)) (pos 0)
unfolding sum_of_first
sum_of_first-more m null xs set = let e : m + 1 + 1 ≡ suc (m + 1) = omega arith in rw e (rw add-one refl)

pub sum_of_first-all : (m : ℕ) (null : ℤ) (xs : List ℤ) (set : ℕ) → m ≡ length xs → sum_of_first (m + 1) (null ∷ xs) set ≡ sum_in (null ∷ xs) set
unfolding sum_of_first sum_in
sum_of_first-all m null xs set e = ap (λ (k : ℕ). sum_to k (λ j. cond (members set j) (entries (null ∷ xs) j) (pos 0))) (let f : m + 1 ≡ suc (length xs) = omega arith in f)

unfoldable pub dot_of_first : ℕ → List ℤ → List ℤ → ℤ
dot_of_first m xs ys = dot_to m (entries xs) (entries ys)

pub dot_of_first-none : (xs ys : List ℤ) → dot_of_first 0 xs ys ≡ pos 0
unfolding dot_of_first
dot_of_first-none xs ys = refl

pub dot_of_first-more : (m : ℕ) (xs ys : List ℤ) → dot_of_first (m + 1) xs ys ≡ dot_of_first m xs ys +ℤ (get_or xs m (pos 0) *ℤ get_or ys m (pos 0))
unfolding dot_of_first
dot_of_first-more m xs ys = rw add-one refl

pub dot_of_first-all : (m : ℕ) (xs ys : List ℤ) → m ≡ length xs → dot_of_first m xs ys ≡ dot_of xs ys
unfolding dot_of_first dot_of
dot_of_first-all m xs ys e = ap (λ (k : ℕ). dot_to k (entries xs) (entries ys)) e

-- ---- ranges
abs_of : (m : ℕ) (a : ℤ) → Lies m a → unsigned_abs a ≤ m
abs_of m (pos k) h = omega (arith, ints)
abs_of m (negsuc k) h = omega (arith, ints)

of_abs : (m : ℕ) (a : ℤ) → unsigned_abs a ≤ m → Lies m a
of_abs m (pos k) h = (omega (arith, ints), omega (arith, ints))
of_abs m (negsuc k) h = (omega (arith, ints), omega (arith, ints))

pub product_lies : (m n : ℕ) (a b : ℤ) → Lies m a → Lies n b → Lies (m * n) (a *ℤ b)
product_lies m n a b h k = of_abs (m * n) (a *ℤ b) (let e = unsigned_abs-mul a b in let l : unsigned_abs a * unsigned_abs b ≤ m * n = mul-le-mul (abs_of m a h) (abs_of n b k) in omega arith)

pub counted_lies : (m : ℕ) (counts : Bool) (a : ℤ) → Lies m a → Lies m (cond counts a (pos 0))
counted_lies m true a h = h
counted_lies m false a h = (omega (arith, ints), omega (arith, ints))
