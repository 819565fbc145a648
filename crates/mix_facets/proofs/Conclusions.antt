-- What follows where no point of any grid has a negative weight: no facet weight of the two choices is negative anywhere.
use Rattle.std.proofs.Common.{◌≡◌, ℕ, suc, ◌<◌, List, ℤ, pos, ◌-ℤ◌, ◌≤ℤ◌, ◌<ℤ◌, arith, refl, ap, cond, eqb, Bool, true, false}
use Rattle.std.proofs.lemmas.Int.{ints, by_lt_z}
use mathlib.Core.Path.{fun_ext}
use Rattle.mix_num.specs.Vectors.{Vector}
use Rattle.mix_bids.specs.Offers.{best, pair, same_set}
use Rattle.mix_bids.specs.Bids.{Book, facet_weight, weight_where}
use Rattle.mix_bids.specs.declared.bid.Bid.{Bid}
use Rattle.mix_facets.specs.Levels.{Level}
use Rattle.mix_facets.specs.Points.{prices_at}
use Rattle.mix_facets.specs.Grids.{size_of, point_at}

-- no facet weight of a level's two choices is negative where their prices differ by its difference
abbrev pub IsClear : Book → Level → Type 0
IsClear book level = (x : Vector) → x level.first -ℤ x level.second ≡ level.difference → pos 0 ≤ℤ facet_weight book.goods level.first level.second book.bids x

-- a grid whose every negative weight is at least some point's, and whose points all have weights that are not negative
pub level_clear : (book : Book) (level : Level) (grid : List (List ℤ)) → ((x : Vector) → x level.first -ℤ x level.second ≡ level.difference → facet_weight book.goods level.first level.second book.bids x <ℤ pos 0 → (k : ℕ) × (k < size_of grid) × (facet_weight book.goods level.first level.second book.bids (prices_at level (point_at grid k)) ≤ℤ facet_weight book.goods level.first level.second book.bids x)) → ((k : ℕ) → k < size_of grid → pos 0 ≤ℤ facet_weight book.goods level.first level.second book.bids (prices_at level (point_at grid k))) → IsClear book level
level_clear book level grid least all x e = by_lt_z (facet_weight book.goods level.first level.second book.bids x) (pos 0)
    (λ h. let r = least x e h in let l = r.2 in let m = all r.0 r.1 in omega (arith, ints))
    (λ h. h)

either_way : (s t : Bool) → cond s true t ≡ cond t true s
either_way true true = refl
either_way true false = refl
either_way false true = refl
either_way false false = refl

-- the facet weight does not tell the first choice from the second
pub facet_weight-swap : (n i j : ℕ) (bs : List Bid) (x : Vector) → facet_weight n i j bs x ≡ facet_weight n j i bs x
facet_weight-swap n i j bs x =
    let e : pair i j ≡ pair j i = fun_ext (λ k. either_way (eqb k i) (eqb k j)) in
    ap (λ t. weight_where (λ b. same_set (suc n) (best b.values.items x) t) bs) e
