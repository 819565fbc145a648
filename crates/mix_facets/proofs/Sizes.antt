-- The size of a grid, one coordinate at a time.
use Rattle.std.proofs.Common.{◌≡◌, ℕ, ◌+◌, ◌*◌, ◌≤◌, ◌<◌, List, ℤ, arith, sym, ap, ◌∙◌, length, get_or, drop}
use Rattle.std.proofs.lemmas.List.{drop_more, drop_all}
use Rattle.mix_facets.specs.Grids.{size_of}

pub size_step : (grid : List (List ℤ)) (k : ℕ) (us : List ℤ) (s n total : ℕ) → k < length grid → us ≡ get_or grid k us → n ≡ length us → s * size_of (drop k grid) ≡ total → (s * n) * size_of (drop (k + 1) grid) ≡ total
size_step grid k us s n total l q e h =
    let m = size_of (drop (k + 1) grid) in
    let a : size_of (drop k grid) ≡ length (get_or grid k us) * m = ap size_of (drop_more grid k us l) in
    let b : length (get_or grid k us) ≡ n = sym (ap length q) ∙ sym e in
    let c : size_of (drop k grid) ≡ n * m = a ∙ ap (λ z. z * m) b in
    let d : s * size_of (drop k grid) ≡ s * (n * m) = ap (λ z. s * z) c in
    omega arith

pub size_end : (grid : List (List ℤ)) (k s total : ℕ) → length grid ≤ k → s * size_of (drop k grid) ≡ total → s ≡ total
size_end grid k s total l h =
    let e : s * size_of (drop k grid) ≡ s * 1 = ap (λ z. s * size_of z) (drop_all k grid l) in
    omega arith
