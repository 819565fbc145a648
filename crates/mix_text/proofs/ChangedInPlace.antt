-- A list of numbers that are changed one after the other.
use Rattle.std.proofs.Common.{◌≡◌, ◌<◌, ◌≤◌, ◌+◌, ℕ, zero, suc, List, [], ◌∷◌, ◌++◌, length, map, take, drop, get_or, set, sym, ◌∙◌, ap, ap₂, arith, refl, add-one, append-nil}
use Rattle.std.proofs.lemmas.List.{drop_all, length-map, take_all}

-- the list where those before a place have been changed
abbrev pub changed_before : (ℕ → ℕ) → List ℕ → ℕ → List ℕ
changed_before f xs i = map f (take i xs) ++ drop i xs

next : (f : ℕ → ℕ) (xs : List ℕ) (i : ℕ) → i < length xs → set (changed_before f xs i) i (f (get_or (changed_before f xs i) i 0)) ≡ changed_before f xs (suc i)
next f [] i h = absurd (omega (arith, h))
next f (x ∷ xs) zero h = refl
next f (x ∷ xs) (suc i) h = ap (λ rest. f x ∷ rest) (next f xs i (omega (arith, h)))

pub change_next : (f : ℕ → ℕ) (xs : List ℕ) (i : ℕ) → i < length xs → set (changed_before f xs i) i (f (get_or (changed_before f xs i) i 0)) ≡ changed_before f xs (i + 1)
change_next f xs i h = next f xs i h ∙ ap (changed_before f xs) (sym (add-one i))

pub changed_all : (f : ℕ → ℕ) (xs : List ℕ) (i : ℕ) → length xs ≤ i → changed_before f xs i ≡ map f xs
changed_all f xs i h = ap₂ (λ (ys zs : List ℕ). map f ys ++ zs) (take_all i xs h) (drop_all i xs h) ∙ append-nil (map f xs)

-- what is written back of a list in which each has been changed
pub written_back : (f : ℕ → ℕ) (changed xs : List ℕ) (n : ℕ) → changed ≡ map f xs → length xs ≡ n → take n (changed ++ drop (length changed) xs) ≡ map f xs
written_back f changed xs n e size =
    let count : length changed ≡ length xs = ap length e ∙ length-map xs f in
    ap (take n) (ap (λ (rest : List ℕ). changed ++ rest) (drop_all (length changed) xs (omega (arith, count))) ∙ append-nil changed) ∙ take_all n changed (omega (arith, count, size)) ∙ e
