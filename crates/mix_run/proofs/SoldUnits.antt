-- What is sold, good by good.
use Rattle.std.proofs.Common.{◌≡◌, ◌∙◌, ◌+◌, ℕ, ℤ, pos, ◌-ℤ◌, List, [], ◌∷◌, ◌++◌, get_or, map, ap, sym, arith}
use Rattle.std.specs.List.{range_with_len}
use Rattle.std.proofs.lemmas.List.FromFn.{map-range_with_len_more}

-- one good more
pub one_sold : (supply returns before now : List ℤ) (k : ℕ) (units : ℤ) → before ≡ map (λ i. get_or supply i (pos 0) -ℤ get_or returns i (pos 0)) (range_with_len 0 k)
    → now ≡ before ++ units ∷ [] → units ≡ get_or supply k (pos 0) -ℤ get_or returns k (pos 0) → now ≡ map (λ i. get_or supply i (pos 0) -ℤ get_or returns i (pos 0)) (range_with_len 0 (k + 1))
one_sold supply returns before now k units so more is =
    let sold : ℕ → ℤ = λ i. get_or supply i (pos 0) -ℤ get_or returns i (pos 0) in
    more
    ∙ ap (λ (xs : List ℤ). xs ++ units ∷ []) so
    ∙ ap (λ (x : ℤ). map sold (range_with_len 0 k) ++ x ∷ []) is
    ∙ sym (map-range_with_len_more sold 0 k k (omega arith))
