-- A function that keeps the local law, and another that nowhere falls by less where the first's prices rise: a least point of the first is below any of
-- the second.
use Rattle.std.proofs.Common.{◌≡◌, ℕ, ℤ, pos, ◌≤ℤ◌, arith}
use Rattle.std.proofs.lemmas.Int.{ints, clamps}
use Rattle.mix_num.specs.Vectors.{Vector, Agree}
use Rattle.mix_law.specs.Members.{KeepsLocal}
use Rattle.mix_law.proofs.Lattice.{greater, lattice, lesser}
use Rattle.mix_market.specs.Lyapunov.{IsBelow, IsLeastPoint}
use Rattle.mix_clearing.specs.Scarcity.{WantsNoLess}

module _ {n : ℕ} {l : Vector → ℤ} {w : ℤ} (keeps : KeepsLocal n l w) (m : Vector → ℤ) (steeper : WantsNoLess n l m) where
  -- it reads the same choices
  pub steeper_reads : (x y : Vector) → Agree n x y → m x ≡ m y
  steeper_reads x y a =
      let e = keeps.reads x y a in
      let p = steeper x y (λ k h. let b = a k h in omega (arith, ints)) in
      let q = steeper y x (λ k h. let b = a k h in omega (arith, ints)) in
      omega (arith, ints)

  module _ (start floor p q : Vector) (first : p 0 ≡ pos 0) (second : q 0 ≡ pos 0) (higher : IsBelow n start floor) (above : IsBelow n start p) (over : IsBelow n floor q)
      (low : (z : Vector) → z 0 ≡ pos 0 → IsBelow n start z → l p ≤ℤ l z) where
    lesser_null : lesser p q 0 ≡ pos 0
    lesser_null = omega (arith, ints, clamps)

    lesser_above : IsBelow n start (lesser p q)
    lesser_above k h = let a = above k h in let b = higher k h in let c = over k h in omega (arith, ints, clamps)

    pub greater_null : greater p q 0 ≡ pos 0
    greater_null = omega (arith, ints, clamps)

    pub greater_over : IsBelow n floor (greater p q)
    greater_over k h = let c = over k h in omega (arith, ints, clamps)

    -- the greater entries are no worse for the second function than its own point
    pub greater_no_more : m (greater p q) ≤ℤ m q
    greater_no_more =
        let e = lattice keeps p q in
        let a = low (lesser p q) lesser_null lesser_above in
        let s = steeper q (greater p q) (λ k h. omega (arith, ints, clamps)) in
        omega (arith, ints)

    -- and where that is least for it, the least point of the first is below it
    pub least_below : IsLeastPoint n l start p → m q ≤ℤ m (greater p q) → IsBelow n p q
    least_below least up k h =
        let e = lattice keeps p q in
        let s = steeper q (greater p q) (λ k h. omega (arith, ints, clamps)) in
        let a = low (lesser p q) lesser_null lesser_above in
        let b = least.lowest (lesser p q) lesser_null lesser_above (omega (arith, ints)) k h in
        omega (arith, ints, clamps)
