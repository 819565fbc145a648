-- One row's turn: its tight pairs, those of the rows before it, and where they stand.
use Rattle.std.proofs.Common.{◌≡◌, ℕ, zero, suc, ◌+◌, ◌-◌, ◌*◌, ◌^◌, ◌<◌, ◌≤◌, min, ℤ, ◌-ℤ◌, List, [], ◌∷◌, ◌++◌, length, get_or, take, drop, refl, sym, ap, ap₂, ◌∙◌, subst, arith, length-append}
use Rattle.std.proofs.lemmas.Int.{ints}
use Rattle.std.proofs.lemmas.List.{get_or-append-add, get_or-take, get_or_append_left, length-take-le}
use Rattle.std.proofs.lemmas.List.Edits.{length-between}
use Rattle.std.proofs.Math.Nat.{mul-le-mul}
use borrow.Rule.Slice.PartMut.{post_of, put_mid}
use Rattle.mix_num.specs.Sums.{sum_in}
use Rattle.mix_num.specs.Tables.{number_of, share_in}
use Rattle.mix_num.specs.Shares.{sum_at, supply_null}
use Rattle.mix_num.specs.Pairs.{IsFirstTight, IsFirstTightOf, floor_at, left_at, shares_in}
use Rattle.mix_ties.specs.Numbered.{IsFloor}
use Rattle.mix_ties.specs.Turns.{subtracted}
use Rattle.mix_ties.proofs.TightPairs.{first_tight_same, left-step, left_at-suc}

-- what is kept of the bundles so far, where one more is written after them
take-front : (xs : List (List ℤ)) (x : List ℤ) (i : ℕ) → i ≤ length xs → take i (xs ++ x ∷ []) ≡ take i xs
take-front xs x zero h = refl
take-front [] x (suc i) h = absurd (omega arith)
take-front (y ∷ xs) x (suc i) h = ap (λ (w : List (List ℤ)). y ∷ w) (take-front xs x i (omega arith))

get-last : (xs : List (List ℤ)) (x : List ℤ) (k : ℕ) → k ≡ length xs → get_or (xs ++ x ∷ []) k [] ≡ x
get-last [] x k h = rw (let e : k ≡ 0 = omega arith in e) refl
get-last (y ∷ xs) x zero h = absurd (omega arith)
get-last (y ∷ xs) x (suc k) h = get-last xs x k (omega arith)

left_at-front : (n : ℕ) (rows xs : List (List ℤ)) (supply x : List ℤ) (i set : ℕ) → i ≤ length xs → left_at n rows supply (xs ++ x ∷ []) i set ≡ left_at n rows supply xs i set
left_at-front n rows xs supply x i set h = ap (λ (w : List (List ℤ)). sum_in (supply_null n rows supply ∷ supply) set -ℤ shares_in n (take i rows) w set) (take-front xs x i h)

-- the tight pairs of the members so far stay
pub first-kept : (n : ℕ) (rows xs : List (List ℤ)) (supply x : List ℤ) (i j a b : ℕ) → i < length xs → IsFirstTightOf n rows supply xs i j a b → IsFirstTightOf n rows supply (xs ++ x ∷ []) i j a b
first-kept n rows xs supply x i j a b h t =
    subst (λ (w : List ℤ). IsFirstTight n j (get_or rows i []) (floor_at n rows supply (xs ++ x ∷ []) i) w a b) (sym (get_or_append_left xs (x ∷ []) [] i h))
    (first_tight_same n j (get_or rows i []) (floor_at n rows supply xs i) (floor_at n rows supply (xs ++ x ∷ []) i) (get_or xs i []) a b
    (λ set l. ap (λ (z : ℤ). z -ℤ sum_at (drop (suc i) rows) set) (sym (left_at-front n rows xs supply x i set (omega arith)))) t)

-- the k-th row r has its turn, and gets x; the rows from m on are those after it
module _ (n k m : ℕ) (rows xs : List (List ℤ)) (supply left r x : List ℤ) (here : r ≡ get_or rows k []) (lt : k < length rows) (count : k ≡ length xs) (after : suc k ≡ m)
    (left_is : (set : ℕ) → sum_in (supply_null n (r ∷ drop m rows) left ∷ left) set ≡ left_at n rows supply xs k set) where
  -- the turn's pairs are those of the k-th member
  pub first-of_turn : (j a b : ℕ) (later floor : List ℤ) (null : ℤ) → null ≡ supply_null n (r ∷ drop m rows) left → ((set : ℕ) → set < 2 ^ suc n → number_of later set ≡ sum_at (drop m rows) set)
      → IsFloor (2 ^ suc n) null left later floor → IsFirstTight n j r (number_of floor) x a b → IsFirstTightOf n rows supply (xs ++ x ∷ []) k j a b
  first-of_turn j a b later floor null e l is t =
      subst (λ (w : List ℤ). IsFirstTight n j (get_or rows k []) (floor_at n rows supply (xs ++ x ∷ []) k) w a b) (sym (get-last xs x k count))
      (subst (λ (w : List ℤ). IsFirstTight n j w (floor_at n rows supply (xs ++ x ∷ []) k) x a b) here
      (first_tight_same n j r (number_of floor) (floor_at n rows supply (xs ++ x ∷ []) k) x a b
      (λ set h.
      let v = is set h in
      let p = left_is set in
      let q = l set h ∙ sym (ap (λ (i : ℕ). sum_at (drop i rows) set) after) in
      let f = left_at-front n rows xs supply x k set (omega arith) in
      let z = ap (λ (w : ℤ). sum_in (w ∷ left) set) e in
      omega (arith, ints)) t))

  -- and what is left for the next turn
  pub left-next : length left ≡ n → length x ≡ n → (set : ℕ) → sum_in (supply_null n (drop m rows) (subtracted left x) ∷ subtracted left x) set ≡ left_at n rows supply (xs ++ x ∷ []) m set
  left-next e f set =
      let p = left-step n r (drop m rows) left x set e f in
      let q = left_at-suc n rows (xs ++ x ∷ []) supply k set lt (omega (arith, count, length-append xs (x ∷ []))) in
      let g = left_at-front n rows xs supply x k set (omega arith) in
      let s = ap₂ (λ (u v : List ℤ). share_in n u v set) here (sym (get-last xs x k count)) in
      let i = left_is set in
      let z = ap (λ (i : ℕ). left_at n rows supply (xs ++ x ∷ []) i set) after in
      omega (arith, ints)

-- ---- places of pairs, so many for each member
pub place_before : (i k n j : ℕ) → i < k → j < n → i * n + j < k * n
place_before i k n j h l = let m : suc i * n ≤ k * n = mul-le-mul (let q : suc i ≤ k = omega arith in q) (let q : n ≤ n = omega arith in q) in let e : suc i * n ≡ n + i * n = next i n in omega arith
  where
    next : (i n : ℕ) → suc i * n ≡ n + i * n
    next i n = omega arith

-- the k-th of m members has as many places before it as there are goods of the members before it
pub first_is : (k m n goods places first : ℕ) → k < m → places ≡ (m - 1) * n → goods ≡ n → first ≡ min places (k * goods) → first ≡ k * n
first_is k m n goods places first h e g f =
    let p : k * n ≤ (m - 1) * n = mul-le-mul (let q : k ≤ m - 1 = omega arith in q) (let q : n ≤ n = omega arith in q) in
    let i = ap (λ (z : ℕ). k * z) g in
    omega arith

next_place : (k n : ℕ) → (k + 1) * n ≡ k * n + n
next_place k n = omega arith

-- and a place for each good, if it isn't the last
pub places_few : {A : Type 0} (k n goods goods' first end : ℕ) (xs : List A) → goods ≡ n → goods' ≡ n → first ≡ min (length xs) (k * goods) → end ≡ min (length xs) ((k + 1) * goods')
    → length (take (end - first) (drop first xs)) ≤ n
places_few k n goods goods' first end xs g g' f e =
    let i = ap (λ (z : ℕ). k * z) g in
    let i' = ap (λ (z : ℕ). (k + 1) * z) g' in
    let l = length-between xs first end (omega arith) in
    let t = next_place k n in
    omega arith

pub places_all : {A : Type 0} (k m n goods goods' first end : ℕ) (xs : List A) → suc k < m → length xs ≡ (m - 1) * n → goods ≡ n → goods' ≡ n → first ≡ min (length xs) (k * goods) → end ≡ min (length xs) ((k + 1) * goods')
    → length (take (end - first) (drop first xs)) ≡ n
places_all k m n goods goods' first end xs h s g g' f e =
    let a = first_is k m n goods (length xs) first (omega arith) s g f in
    let b = first_is (k + 1) m n goods' (length xs) end (omega arith) s g' e in
    let l = length-between xs first end (omega arith) in
    let t = next_place k n in
    omega arith

-- ---- a part of a list that was written
pub get-part : {A : Type 0} (a k : ℕ) (xs ys : List A) (i : ℕ) (d : A) → a ≤ length xs → i < length ys → get_or (put_mid a k xs ys) (a + i) d ≡ get_or ys i d
get-part a k xs ys i d h l =
    ap (λ (m : ℕ). get_or (put_mid a k xs ys) (m + i) d) (sym (length-take-le a xs h))
    ∙ get_or-append-add (take a xs) (ys ++ post_of a k xs) i d
    ∙ get_or_append_left ys (post_of a k xs) d i l

pub get-before_part : {A : Type 0} (a k : ℕ) (xs ys : List A) (i : ℕ) (d : A) → a ≤ length xs → i < a → get_or (put_mid a k xs ys) i d ≡ get_or xs i d
get-before_part a k xs ys i d h l =
    get_or_append_left (take a xs) (ys ++ post_of a k xs) d i (let e = length-take-le a xs h in omega arith)
    ∙ get_or-take a xs i d l
