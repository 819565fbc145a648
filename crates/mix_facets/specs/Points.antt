-- Points of a level: a coordinate for each choice other than its two, and the prices that it stands for.
use Rattle.std.specs.Prelude.{◌≡◌, ◌≢◌, ℕ, suc, ◌+◌, ◌-◌, cond, eqb, ltb, List, ℤ, pos, neg_ℤ, ◌+ℤ◌, ◌-ℤ◌, ◌≤ℤ◌, get_or, length, All}
use Rattle.mix_num.specs.Vectors.{Vector}
use Rattle.mix_facets.specs.Levels.{Level}

-- the place of a choice among those other than i and j
abbrev pub place : ℕ → ℕ → ℕ → ℕ
place i j c = c - (cond (ltb i c) 1 0 + cond (ltb j c) 1 0)

-- the coordinate of a choice: by how much its price lies above that of i
abbrev pub coordinate : ℕ → ℕ → List ℤ → Vector
coordinate i j point = λ c. get_or point (place i j c) (pos 0)

-- the price of the choice i: the null choice costs nothing, so that its coordinate tells it
abbrev pub first_price : ℕ → List ℤ → ℤ
first_price i point = cond (eqb i 0) (pos 0) (neg_ℤ (get_or point 0 (pos 0)))

-- the prices of a point
abbrev pub prices_at : Level → List ℤ → Vector
prices_at level point = λ c.
    cond (eqb c level.first) (first_price level.first point)
    (cond (eqb c level.second) (first_price level.first point -ℤ level.difference)
    (first_price level.first point +ℤ coordinate level.first level.second point c))

-- a coordinate, and one of the null choice: at most the greatest value away from 0, but for the one that is added
abbrev pub IsCoordinate : ℤ → Type 0
IsCoordinate u = (neg_ℤ (pos 1000000) ≤ℤ u) × (u ≤ℤ pos 1000001)

abbrev pub IsNullCoordinate : ℤ → Type 0
IsNullCoordinate u = (neg_ℤ (pos 999999) ≤ℤ u) × (u ≤ℤ pos 1)

-- a coordinate for each other choice: no price of such a point lies further than 2,000,000 from 0
pub record IsPoint (level : Level) (point : List ℤ) : Type 0 where
  pub size : suc (length point) ≡ level.goods
  pub near : All IsCoordinate point
  pub null : level.first ≢ 0 → IsNullCoordinate (get_or point 0 (pos 0))
