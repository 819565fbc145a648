-- The least and the greatest over members, one member at a time.
use Rattle.std.proofs.Common.{◌≡◌, ℕ, zero, suc, ◌+◌, ◌<◌, ◌≤◌, Bool, true, false, ltb, List, [], ◌∷◌, ◌++◌, length, get_or, drop, All, ℤ, pos, negsuc, ◌≤ℤ◌, ap, ◌∙◌, sym, refl, arith, drop_of_length-le}
use Rattle.std.proofs.lemmas.Bool.{ltb-true, ltb-false}
use Rattle.std.proofs.lemmas.List.{get_or_append_left, get_or_push, length-append}
use Rattle.std.proofs.lemmas.Int.{ints, clamps}
use Rattle.std.specs.Int.{int_min, int_max}
use Rattle.mix_market.specs.Extremes.{least_of, greatest_of}
use Rattle.mix_market.proofs.MemberSums.{rest_is}

pub least_most : {D : Type 0} (f : D → ℤ) (xs : List D) → least_of f xs ≤ℤ pos 8000000
least_most f [] = omega (arith, ints)
least_most f (x ∷ xs) = let h = least_most f xs in omega (arith, ints, clamps)

pub least_next : {D : Type 0} (f : D → ℤ) (xs : List D) (i : ℕ) (y : D) (least own new total : ℤ) → i < length xs → y ≡ get_or xs i y → own ≡ f y → new ≡ int_min least own
    → int_min least (least_of f (drop i xs)) ≡ total → int_min new (least_of f (drop (i + 1) xs)) ≡ total
least_next f xs i y least own new total h e is m all =
    let next = ap (least_of f) (rest_is xs i y h e) in
    omega (arith, ints, clamps)

pub least_end : {D : Type 0} (f : D → ℤ) (xs : List D) (i : ℕ) (least total : ℤ) → length xs ≤ i → least ≤ℤ pos 8000000 → int_min least (least_of f (drop i xs)) ≡ total → least ≡ total
least_end f xs i least total l h all = let e = ap (least_of f) (drop_of_length-le xs l) in omega (arith, ints, clamps)

pub greatest_least : {D : Type 0} (f : D → ℤ) (xs : List D) → negsuc 999999 ≤ℤ greatest_of f xs
greatest_least f [] = omega (arith, ints)
greatest_least f (x ∷ xs) = let h = greatest_least f xs in omega (arith, ints, clamps)

pub greatest_next : {D : Type 0} (f : D → ℤ) (xs : List D) (i : ℕ) (y : D) (greatest own new total : ℤ) → i < length xs → y ≡ get_or xs i y → own ≡ f y → new ≡ int_max greatest own
    → int_max greatest (greatest_of f (drop i xs)) ≡ total → int_max new (greatest_of f (drop (i + 1) xs)) ≡ total
greatest_next f xs i y greatest own new total h e is m all =
    let next = ap (greatest_of f) (rest_is xs i y h e) in
    omega (arith, ints, clamps)

pub greatest_end : {D : Type 0} (f : D → ℤ) (xs : List D) (i : ℕ) (greatest total : ℤ) → length xs ≤ i → negsuc 999999 ≤ℤ greatest → int_max greatest (greatest_of f (drop i xs)) ≡ total → greatest ≡ total
greatest_end f xs i greatest total l h all = let e = ap (greatest_of f) (drop_of_length-le xs l) in omega (arith, ints, clamps)

-- no member's number is greater
pub greatest_covers : {D : Type 0} (f : D → ℤ) (xs : List D) → All (λ x. f x ≤ℤ greatest_of f xs) xs
greatest_covers f [] i d h = absurd (omega arith)
greatest_covers f (x ∷ xs) zero d h = omega (arith, ints, clamps)
greatest_covers f (x ∷ xs) (suc i) d h = let a = greatest_covers f xs i d (omega arith) in omega (arith, ints, clamps)

-- one number more in a list of numbers
pub numbers_next : (f : ℕ → ℤ) (xs new : List ℤ) (place : ℕ) (x : ℤ) → new ≡ xs ++ x ∷ [] → length xs ≡ place → x ≡ f place → ((k : ℕ) → k < length xs → get_or xs k (pos 0) ≡ f k) → (k : ℕ) → k < length new → get_or new k (pos 0) ≡ f k
numbers_next f xs new place x e count is h k l = ap (λ (z : List ℤ). get_or z k (pos 0)) e ∙ at (ltb k (length xs)) refl
  where
    total : length new ≡ length xs + 1
    total = ap length e ∙ length-append xs (x ∷ [])

    at : (b : Bool) → ltb k (length xs) ≡ b → get_or (xs ++ x ∷ []) k (pos 0) ≡ f k
    at true q = get_or_append_left xs (x ∷ []) (pos 0) k (ltb-true k (length xs) q) ∙ h k (ltb-true k (length xs) q)
    at false q =
        let past = ltb-false k (length xs) q in
        let last : length xs ≡ k = omega (arith, total) in
        get_or_push xs x (pos 0) k last ∙ is ∙ ap f (sym count ∙ last)
