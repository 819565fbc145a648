-- A least step taken several times at once, for as long as its slope is the same.
use Rattle.std.proofs.Common.{◌≡◌, ℕ, suc, ◌≤◌, ◌<◌, Bool, true, false, ℤ, pos, ◌+ℤ◌, ◌-ℤ◌, ◌*ℤ◌, ◌≤ℤ◌, ◌<ℤ◌, arith, cond, subst, sym}
use Rattle.std.proofs.lemmas.Int.{ints, clamps}
use Rattle.mix_num.specs.Vectors.{Vector, Choices, bit, plus, ray, Agree}
use Rattle.mix_num.specs.Moves.{raised}
use Rattle.mix_law.specs.Members.{KeepsLocal}
use Rattle.mix_law.proofs.Exchanges.{AtMost}
use Rattle.mix_law.proofs.Lattice.{over, over_is}
use Rattle.mix_market.specs.Lyapunov.{IsLeastPoint}
use Rattle.mix_market.specs.Steepest.{IsMinimalSteepest, slope_of}
use Rattle.mix_step.proofs.Climbs.{IsBestBelow}
use Rattle.mix_step.proofs.Rises.{step_counts}
use Rattle.mix_step.proofs.Rooms.{room, room-less, room-raised, count}
use Rattle.mix_step.proofs.Straights.{straight_best}

-- at each of so many steps along the set l rises by the first slope
abbrev pub IsLinear : (Vector → ℤ) → Vector → Choices → ℤ → Type 0
IsLinear l p s by = (m : ℕ) → pos m ≤ℤ by → l (ray p m s) ≡ l p +ℤ (pos m *ℤ slope_of l p s)

further : (a by : ℤ) (s : Bool) → pos 1 ≤ℤ by → (a +ℤ bit s) ≤ℤ (a +ℤ cond s by (pos 0))
further a by true h = omega (arith, ints)
further a by false h = omega (arith, ints)

-- what is better than all below it stays so
pub far_best : {n : ℕ} {l : Vector → ℤ} {w : ℤ} → KeepsLocal n l w → (start p : Vector) (s : Choices) (by : ℤ) → pos 1 ≤ℤ by → IsMinimalSteepest n l p s → IsLinear l p s by → IsBestBelow n l start p → IsBestBelow n l start (raised p s by)
far_best {n} {l} c start p s by some t linear b =
    let o = over_is by in
    let is : by ≡ pos (over by) = omega (arith, ints, clamps) in
    let there = straight_best c start p s (slope_of l p s) (over by) t (λ j h. linear j (omega (arith, ints))) b (over by) (omega arith) in
    subst (λ (z : ℤ). IsBestBelow n l start (raised p s z)) (sym is) there

-- and comes nearer to the least point by one at least
pub far_counts : {n : ℕ} {l : Vector → ℤ} {w : ℤ} → KeepsLocal n l w → (start u : Vector) → u 0 ≡ pos 0 → IsLeastPoint n l start u → (p : Vector) (s : Choices) (by : ℤ) → pos 1 ≤ℤ by → p 0 ≡ pos 0 → IsBestBelow n l start p → IsMinimalSteepest n l p s
    → (((k : ℕ) → k ≤ n → s k ≡ false) → ⊥) → (v : ℤ) → AtMost n u p v → AtMost n u (raised p s by) (v -ℤ pos 1)
far_counts c start u null least p s by one z b t some v d k i =
    let e = step_counts c start u null least p s z b t some v d k i in
    let more = further (p k) by (s k) one in
    omega (arith, ints)

-- a rise by one or more takes some of the room
pub far_room : (n : ℕ) (p q : Vector) (s : Choices) (by : ℤ) → pos 1 ≤ℤ by → 0 < count n s → ((k : ℕ) → k < n → s (suc k) ≡ true → p (suc k) <ℤ pos 1000000) → Agree n q (raised p s by) → room n q < room n p
far_room n p q s by some any low e =
    let one = room-raised n p s low in
    let more = room-less n (plus p s) q (λ k i. let u = e (suc k) (omega arith) in let v = further (p (suc k)) by (s (suc k)) some in omega (arith, ints)) in
    omega arith
