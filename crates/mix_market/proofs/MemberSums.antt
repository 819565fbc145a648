-- Sums over members, one member at a time.
use Rattle.std.proofs.Common.{◌≡◌, ℕ, ◌+◌, ◌<◌, List, ◌∷◌, length, map, get_or, drop, All, ℤ, ◌+ℤ◌, pos, ◌≤ℤ◌, ap, ap₂, sym, ◌∙◌, subst, arith, add-one, drop-cons, below_more}
use Rattle.std.proofs.lemmas.Int.{ints}
use Rattle.std.proofs.lemmas.List.{get_or_default}
use Rattle.mix_num.specs.Vectors.{Vector, Choices, plus}
use Rattle.mix_law.specs.Members.{fall_of}
use Rattle.mix_market.specs.Lyapunov.{sum_of}
use Rattle.mix_market.specs.Memberships.{AreMembers}

-- what holds of all holds of the one at a place
pub one_of : {D : Type 0} (P : D → Type 0) (xs : List D) (i : ℕ) (y : D) → All P xs → i < length xs → y ≡ get_or xs i y → P y
one_of P xs i y all h e = subst P (sym e) (all i y h)

-- the range of a member's total
pub total_at : {D : Type 0} {size : D → ℕ} {weight : D → ℤ} {n : ℕ} {xs : List D} → AreMembers size weight n xs → (i : ℕ) (y : D) → i < length xs → y ≡ get_or xs i y → (pos 0 ≤ℤ weight y) × (weight y ≤ℤ pos 8000000)
total_at {D} {size} {weight} {n} {xs} m i y h e = one_of (λ member. (pos 0 ≤ℤ weight member) × (weight member ≤ℤ pos 8000000)) xs i y m.totals h e

-- the functions from a place on are the one there and those after it
pub rest_is : {D : Type 0} (xs : List D) (i : ℕ) (y : D) → i < length xs → y ≡ get_or xs i y → drop i xs ≡ y ∷ drop (i + 1) xs
rest_is xs i y h e = drop-cons xs i y h ∙ ap₂ (λ a k. a ∷ drop k xs) (sym e) (sym (add-one i))

pub sum_next : {D : Type 0} (f : D → Vector → ℤ) (xs : List D) (i : ℕ) (y : D) (x : Vector) → i < length xs → y ≡ get_or xs i y → sum_of (map f (drop i xs)) x ≡ f y x +ℤ sum_of (map f (drop (i + 1) xs)) x
sum_next {D} f xs i y x h e = ap (λ (z : List D). sum_of (map f z) x) (rest_is xs i y h e)

pub fall_next : {D : Type 0} (f : D → Vector → ℤ) (xs : List D) (i : ℕ) (y : D) (x : Vector) (s : Choices) → i < length xs → y ≡ get_or xs i y → fall_of (sum_of (map f (drop i xs))) x s ≡ fall_of (f y) x s +ℤ fall_of (sum_of (map f (drop (i + 1) xs))) x s
fall_next f xs i y x s h e =
    let a = sum_next f xs i y x h e in
    let b = sum_next f xs i y (plus x s) h e in
    omega (arith, ints)

-- what holds of the members before a place and of the one there holds of all up to it
pub one_more : {D : Type 0} (P : D → Type 0) (xs : List D) (i : ℕ) (y : D) → i < length xs → y ≡ get_or xs i y → ((k : ℕ) → k < i → (d : D) → P (get_or xs k d)) → P y → (k : ℕ) → k < i + 1 → (d : D) → P (get_or xs k d)
one_more {D} P xs i y h e before here = below_more (λ k. (d : D) → P (get_or xs k d)) i before (λ d. subst P (e ∙ get_or_default xs i y d h) here)
