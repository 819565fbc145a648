-- What is left of a supply, entry by entry.
use Rattle.std.proofs.Common.{◌≡◌, ℕ, zero, suc, ◌+◌, ◌<◌, ℤ, ◌-ℤ◌, List, [], ◌∷◌, ◌++◌, length, take, get_or, refl, ap, arith, add-one}
use Rattle.mix_ties.specs.Turns.{subtracted}

subtracted-suc : (xs ys : List ℤ) (i : ℕ) (d e : ℤ) → i < length xs → i < length ys
    → subtracted (take (suc i) xs) (take (suc i) ys) ≡ subtracted (take i xs) (take i ys) ++ (get_or xs i d -ℤ get_or ys i e) ∷ []
subtracted-suc [] ys i d e h k = absurd (omega arith)
subtracted-suc (x ∷ xs) [] i d e h k = absurd (omega arith)
subtracted-suc (x ∷ xs) (y ∷ ys) zero d e h k = refl
subtracted-suc (x ∷ xs) (y ∷ ys) (suc i) d e h k = ap (λ (w : List ℤ). (x -ℤ y) ∷ w) (subtracted-suc xs ys i d e (omega arith) (omega arith))

pub subtracted-more : (xs ys : List ℤ) (i : ℕ) (d e : ℤ) → i < length xs → i < length ys
    → subtracted (take (i + 1) xs) (take (i + 1) ys) ≡ subtracted (take i xs) (take i ys) ++ (get_or xs i d -ℤ get_or ys i e) ∷ []
subtracted-more xs ys i d e h k = rw add-one (subtracted-suc xs ys i d e h k)
