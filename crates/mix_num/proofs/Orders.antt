-- Bidders in an order: which places it has, and that sums over all of them stay the same.
use Rattle.std.proofs.Common.{◌≡◌, ℕ, ◌+◌, ◌<◌, ℤ, pos, ◌+ℤ◌, ◌-ℤ◌, List, [], ◌∷◌, ◌++◌, All, length, get_or, map, refl, sym, ap, ◌∙◌, subst, arith}
use Rattle.std.proofs.lemmas.Int.{ints}
use Rattle.std.proofs.lemmas.List.{get_or-map}
use Rattle.std.proofs.lemmas.List.FromFn.{fill_by_all, length-range_with_len, get_or-range_with_len}
use Rattle.std.proofs.lemmas.List.Sorted.{All-permutation, IsPermutation-map, IsPermutation-sym, length_permutation, sum_by-IsPermutation}
use Rattle.std.proofs.lemmas.List.Sums.{sum_by-cons}
use Rattle.std.proofs.lemmas.List.{get_or_default}
use Rattle.std.specs.List.{sum_by}
use Rattle.std.specs.List.Sorted.{IsPermutation}
use borrow.Author.Differences.{up, down}
use Rattle.mix_num.specs.Shares.{sum_at}
use Rattle.mix_num.specs.Orders.{IsOrder, in_order, place_at, places}

-- ---- sums in another order
abbrev pub sum_of_all : {X : Type 0} → (X → ℤ) → List X → ℤ
sum_of_all h [] = pos 0
sum_of_all h (x ∷ xs) = h x +ℤ sum_of_all h xs

-- a sum of whole numbers as the difference of two sums of natural ones
sum-parts : {X : Type 0} (h : X → ℤ) (xs : List X) → sum_of_all h xs ≡ pos (sum_by (λ x. up (h x)) xs) -ℤ pos (sum_by (λ x. down (h x)) xs)
sum-parts h [] = refl
sum-parts h (x ∷ xs) =
    let r = sum-parts h xs in
    let u = sum_by-cons (λ x. up (h x)) x xs in
    let d = sum_by-cons (λ x. down (h x)) x xs in
    omega (arith, ints)

pub sum-permutation : {X : Type 0} (h : X → ℤ) (xs ys : List X) → IsPermutation xs ys → sum_of_all h ys ≡ sum_of_all h xs
sum-permutation h xs ys p =
    let a = sum-parts h xs in
    let b = sum-parts h ys in
    let u = sum_by-IsPermutation (λ x. up (h x)) xs ys p in
    let d = sum_by-IsPermutation (λ x. down (h x)) xs ys p in
    omega (arith, ints)

sum_at-is : (xs : List (List ℤ)) (i : ℕ) → sum_at xs i ≡ sum_of_all (λ x. get_or x i (pos 0)) xs
sum_at-is [] i = refl
sum_at-is (x ∷ xs) i = ap (λ (a : ℤ). get_or x i (pos 0) +ℤ a) (sum_at-is xs i)

pub sum-append : (xs : List (List ℤ)) (x : List ℤ) (i : ℕ) → sum_at (xs ++ x ∷ []) i ≡ sum_at xs i +ℤ get_or x i (pos 0)
sum-append [] x i = omega (arith, ints)
sum-append (y ∷ xs) x i = let a = sum-append xs x i in omega (arith, ints)

-- ---- lists in an order of their places
-- in the order of the places themselves
pub in-places : {X : Type 0} (xs : List X) (d : X) (m : ℕ) → length xs ≡ m → xs ≡ map (λ k. get_or xs k d) (places m)
in-places xs d m e = fill_by_all (λ k. get_or xs k d) xs m d e (λ k h. refl)

-- in any order
pub permuted : {X : Type 0} (xs : List X) (d : X) (m : ℕ) (order : List ℕ) → length xs ≡ m → IsOrder m order → IsPermutation xs (map (λ k. get_or xs k d) order)
permuted {X} xs d m order e p = subst (λ (ys : List X). IsPermutation ys (map (λ k. get_or xs k d) order)) (sym (in-places xs d m e)) (IsPermutation-map (λ k. get_or xs k d) (places m) order p)

-- the list at a place of the order
pub get-in_order : (lists : List (List ℤ)) (order : List ℕ) (k : ℕ) → k < length order → get_or (in_order order lists) k [] ≡ get_or lists (place_at order k) []
get-in_order lists order k l = get_or-map (λ i. get_or lists i []) order k 0 [] l

-- sums over all of them
pub sum-ordered : (lists : List (List ℤ)) (i m : ℕ) (order : List ℕ) → length lists ≡ m → IsOrder m order → sum_at (in_order order lists) i ≡ sum_at lists i
sum-ordered lists i m order e is =
    sum_at-is (in_order order lists) i ∙ sum-permutation (λ x. get_or x i (pos 0)) lists (in_order order lists) (permuted lists [] m order e is) ∙ sym (sum_at-is lists i)

-- ---- the places of an order
-- as many as there are bidders
pub length-order : (m : ℕ) (order : List ℕ) → IsOrder m order → length order ≡ m
length-order m order p = length_permutation (places m) order p ∙ length-range_with_len 0 m

-- what holds of all bidders holds of each in the order
pub all-in_order : (P : ℕ → Type 0) (m : ℕ) (order : List ℕ) → IsOrder m order → ((k : ℕ) → k < m → P k) → (j : ℕ) → j < length order → P (place_at order j)
all-in_order P m order p h j l =
    let each : All P (places m) = λ i d b.
    let e = length-range_with_len 0 m in
    let at = get_or-range_with_len 0 m i d (omega arith) in
    subst P (sym at) (h (0 + i) (omega arith)) in
    All-permutation P (places m) order p each j 0 l

-- and the other way round
pub all-where_in_order : (P : ℕ → Type 0) (m : ℕ) (order : List ℕ) → IsOrder m order → ((j : ℕ) → j < length order → P (place_at order j)) → (k : ℕ) → k < m → P k
all-where_in_order P m order p h k l =
    let each : All P order = λ i d b. subst P (get_or_default order i 0 d b) (h i b) in
    let e = length-range_with_len 0 m in
    let at = get_or-range_with_len 0 m k 0 l in
    subst P (at ∙ (let z : 0 + k ≡ k = omega arith in z)) (All-permutation P order (places m) (IsPermutation-sym (places m) order p) each k 0 (omega arith))

-- each is a bidder's
pub place_below : (m : ℕ) (order : List ℕ) (k : ℕ) → IsOrder m order → k < length order → place_at order k < m
place_below m order k p l = all-in_order (λ i. i < m) m order p (λ i h. h) k l
