-- The prices of a point, choice by choice, and how far its coordinates lie from 0.
use Rattle.std.proofs.Common.{◌≡◌, ◌≢◌, ℕ, zero, suc, ◌+◌, ◌≤◌, ◌<◌, ⊎_elim, cond, eqb, List, [], ◌∷◌, ◌++◌, ℤ, pos, neg_ℤ, ◌+ℤ◌, ◌-ℤ◌, ◌≤ℤ◌, arith, sym, ap, ◌∙◌, length, get_or, add-one, eq-or-lt_of_le}
use Rattle.std.proofs.lemmas.Int.{ints}
use Rattle.std.proofs.lemmas.Bool.Decides.{nat_tests}
use Rattle.std.proofs.lemmas.List.{get_or_push, get_or_append_left}
use Rattle.std.proofs.lemmas.List.Elements.{All-get_or}
use Rattle.mix_num.specs.Vectors.{Vector, with_null, Agree}
use Rattle.mix_bids.proofs.Cases.{by_test}
use Rattle.mix_facets.specs.Levels.{Level}
use Rattle.mix_facets.specs.Points.{place, coordinate, first_price, prices_at, IsCoordinate, IsPoint}
use Rattle.mix_facets.proofs.Placings.{place_below}

pub price_first : (level : Level) (point : List ℤ) → prices_at level point level.first ≡ first_price level.first point
price_first level point = grind (arith, nat_tests)

pub price_second : (level : Level) (point : List ℤ) → level.first < level.second → prices_at level point level.second ≡ first_price level.first point -ℤ level.difference
price_second level point h = grind (arith, nat_tests)

pub price_other : (level : Level) (point : List ℤ) (c : ℕ) → c ≢ level.first → c ≢ level.second → prices_at level point c ≡ first_price level.first point +ℤ coordinate level.first level.second point c
price_other level point c p q = grind (arith, nat_tests)

-- each other choice has its coordinate, which is near 0
pub record IsNear (level : Level) (point : List ℤ) (c : ℕ) : Type 0 where
  pub there : place level.first level.second c < length point
  pub low : neg_ℤ (pos 1000000) ≤ℤ coordinate level.first level.second point c
  pub high : coordinate level.first level.second point c ≤ℤ pos 1000001

pub coordinate_near : (level : Level) (point : List ℤ) (c : ℕ) → IsPoint level point → level.first < level.second → level.second ≤ level.goods → c ≤ level.goods → c ≢ level.first → c ≢ level.second → IsNear level point c
coordinate_near level point c h p q l a b =
    let t : place level.first level.second c < length point = omega (arith, place_below level.goods level.first level.second c p q l a b, h.size) in
    let r = All-get_or IsCoordinate point (place level.first level.second c) (pos 0) t h.near in
    record { there = t; low = r.0; high = r.1 }

-- the null choice costs nothing
price_null : (level : Level) (point : List ℤ) → level.first < level.second → pos 0 ≡ prices_at level point 0
price_null level point h = by_test (eqb level.first 0)
    (λ e. let z : level.first ≡ 0 = grind (arith, nat_tests) in
    let p : prices_at level point 0 ≡ prices_at level point level.first = ap (prices_at level point) (sym z) in
    let q : first_price level.first point ≡ pos 0 = ap (λ t. cond t (pos 0) (neg_ℤ (get_or point 0 (pos 0)))) e in
    sym (p ∙ price_first level point ∙ q))
    (λ e. let z : level.first ≢ 0 = grind (arith, nat_tests) in
    let p = price_other level point 0 (λ t. z (sym t)) (omega arith) in
    let q : first_price level.first point ≡ neg_ℤ (get_or point 0 (pos 0)) = ap (λ t. cond t (pos 0) (neg_ℤ (get_or point 0 (pos 0)))) e in
    let r : place level.first level.second 0 ≡ 0 = omega arith in
    let s : coordinate level.first level.second point 0 ≡ get_or point 0 (pos 0) = ap (λ t. get_or point t (pos 0)) r in
    omega (arith, ints))

-- a list of prices with one more
pub prices_step : (f : Vector) (xs ys : List ℤ) (y : ℤ) (g : ℕ) → length xs + 1 ≡ g → ((k : ℕ) → k + 1 < g → get_or xs k (pos 0) ≡ f (k + 1)) → ys ≡ xs ++ y ∷ [] → y ≡ f g → (k : ℕ) → k + 1 < g + 1 → get_or ys k (pos 0) ≡ f (k + 1)
prices_step f xs ys y g s h e q k l = ap (λ z. get_or z k (pos 0)) e ∙ ⊎_elim
    (λ p. get_or_push xs y (pos 0) k (omega arith) ∙ q ∙ ap f (sym p))
    (λ p. get_or_append_left xs (y ∷ []) (pos 0) k (omega arith) ∙ h k p)
    (let m : k + 1 ≤ g = omega arith in eq-or-lt_of_le m)

-- the prices of all goods, and with them of all choices
pub prices_all : (level : Level) (point xs : List ℤ) → level.first < level.second → ((k : ℕ) → k < level.goods → get_or xs k (pos 0) ≡ prices_at level point (k + 1)) → Agree level.goods (with_null xs) (prices_at level point)
prices_all level point xs p h zero l = price_null level point p
prices_all level point xs p h (suc k) l = h k (omega arith) ∙ ap (prices_at level point) (add-one k)
