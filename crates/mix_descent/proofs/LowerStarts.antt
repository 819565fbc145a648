-- The least point at or above a start is the least point at or above a floor below it, where no set of goods may fall from it; and what the start below a guess
-- is, which a great margin makes the floor.
use Rattle.std.proofs.Common.{◌≡◌, ◌∙◌, ℕ, zero, suc, ◌<◌, List, length, get_or, ℤ, pos, ◌-ℤ◌, ◌≤ℤ◌, ◌<ℤ◌, Bool, true, false, int_lt, refl, arith}
use Rattle.std.proofs.lemmas.Int.{ints, clamps}
use Rattle.std.proofs.lemmas.List.{get_or_default}
use Rattle.std.specs.Int.{int_max}
use Rattle.mix_num.specs.Ranges.{AreWithin}
use Rattle.mix_num.specs.Vectors.{Vector, Agree, with_null}
use Rattle.mix_law.specs.Members.{KeepsLocal}
use Rattle.mix_market.specs.Lowerings.{RisesWhereFallen}
use Rattle.mix_market.specs.Lyapunov.{IsBelow, IsLeastPoint}
use Rattle.mix_market.proofs.SingleSteps.{higher, least_point_of_steps, rises_at_least, same_null}

module _ {n : ℕ} {l : Vector → ℤ} {w : ℤ} (c : KeepsLocal n l w) (floor start p : Vector) (null : p 0 ≡ pos 0) (least : IsLeastPoint n l start p) where
  pub least_above_floor : IsBelow n floor start → RisesWhereFallen n l floor p → IsLeastPoint n l floor p
  least_above_floor below rises =
      least_point_of_steps c floor p null (λ k i. let a = below k i in let b = least.above k i in omega (arith, ints))
      (λ s o. least.least _ (same_null (p 0) (s 0) o ∙ null) (λ k i. higher (start k) (p k) (s k) (least.above k i))) rises

  -- and from the least point at or above the floor itself none may fall
  pub rises_from_floor : Agree n start floor → RisesWhereFallen n l floor p
  rises_from_floor same =
      rises_at_least c floor p null (λ k i. let a = same k i in let b = least.above k i in omega (arith, ints)) (record {
        above = λ k i. let a = same k i in let b = least.above k i in omega (arith, ints);
        least = λ q z a. least.least q z (λ k i. let u = same k i in let b = a k i in omega (arith, ints));
        lowest = λ q z a. least.lowest q z (λ k i. let u = same k i in let b = a k i in omega (arith, ints));
      })

-- the greater of the guess less the margin and of the reserve
module _ (n : ℕ) (guess reserve start : List ℤ) (margin : ℤ) (goods : length guess ≡ n) (size : length start ≡ length guess)
    (value : (k : ℕ) → k < length guess → get_or start k (pos 0) ≡ int_max (get_or guess k (pos 0) -ℤ margin) (get_or reserve k (pos 0))) where
  pub start_within : AreWithin 1000000 n guess → AreWithin 1000000 n reserve → pos 0 ≤ℤ margin → AreWithin 1000000 n start
  start_within g r m = (
    size ∙ goods,
    λ k d h.
        let default = get_or_default start k d (pos 0) h in
        let v = value k (omega (arith, h, size)) in
        let a = g.1 k (pos 0) (omega (arith, h, size)) in
        let b = r.1 k (pos 0) (omega (arith, h, size, goods, r.0)) in
        (omega (arith, ints, clamps, default, v, b.0), omega (arith, ints, clamps, default, v, a.1, b.1, m)),
  )

  pub start_above : IsBelow n (with_null reserve) (with_null start)
  start_above zero h = omega (arith, ints)
  start_above (suc k) h = let v = value k (omega (arith, h, goods)) in omega (arith, ints, clamps)

  pub start_floor : AreWithin 1000000 n guess → AreWithin 1000000 n reserve → pos 2000000 ≤ℤ margin → Agree n (with_null start) (with_null reserve)
  start_floor g r m zero h = refl
  start_floor g r m (suc k) h =
      let v = value k (omega (arith, h, goods)) in
      let a = g.1 k (pos 0) (omega (arith, h, goods)) in
      let b = r.1 k (pos 0) (omega (arith, h, r.0)) in
      omega (arith, ints, clamps, v, a.1, b.0, m)

  -- so where it is no higher than the floor, no margin is left
  pub margin_left : {l : Vector → ℤ} {w : ℤ} → KeepsLocal n l w → AreWithin 1000000 n guess → AreWithin 1000000 n reserve → (p : Vector) → p 0 ≡ pos 0
      → IsLeastPoint n l (with_null start) p → (RisesWhereFallen n l (with_null reserve) p → ⊥) → margin <ℤ pos 2000000
  margin_left c g r p null least falls = at (int_lt margin (pos 2000000)) refl
    where
      at : (b : Bool) → int_lt margin (pos 2000000) ≡ b → margin <ℤ pos 2000000
      at true e = grind (arith, ints)
      at false e =
          let high : pos 2000000 ≤ℤ margin = grind (arith, ints) in
          absurd (falls (rises_from_floor c (with_null reserve) (with_null start) p null least (start_floor g r high)))
