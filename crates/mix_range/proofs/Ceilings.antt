-- Prices under a ceiling that is within 1,000,000.
use Rattle.std.proofs.Common.{◌≡◌, ℕ, zero, suc, ◌<◌, Bool, true, false, cond, List, length, get_or, ℤ, pos, ◌+ℤ◌, ◌≤ℤ◌, ◌<ℤ◌, refl, ap, arith}
use Rattle.std.proofs.lemmas.Int.{ints}
use Rattle.std.proofs.lemmas.List.{get_or_default}
use Rattle.mix_num.specs.Vectors.{Vector, Choices, with_null}
use Rattle.mix_num.specs.Ranges.{AreWithin, Lies}
use Rattle.mix_num.specs.Moves.{AreEntries, raised}
use Rattle.mix_num.specs.Sellers.{AreAmounts}
use Rattle.mix_market.specs.Lyapunov.{IsBelow}

-- prices from the reserves to the ceiling are within 1,000,000
pub between : (n : ℕ) (floor ceiling prices : List ℤ) → AreAmounts n floor → AreWithin 1000000 n ceiling → length prices ≡ n → IsBelow n (with_null floor) (with_null prices) → IsBelow n (with_null prices) (with_null ceiling) → AreWithin 1000000 n prices
between n floor ceiling prices f c size low high = (
  size,
  λ k d h.
      let at_zero = get_or_default prices k d (pos 0) h in
      let under : k < length floor = omega arith in
      let over : k < length ceiling = omega arith in
      let a = f.1 k (pos 0) under in
      let b = c.1 k (pos 0) over in
      let u = low (suc k) (omega arith) in
      let v = high (suc k) (omega arith) in
      (omega (arith, ints), omega (arith, ints)),
)

-- what is below the ceiling is below 1,000,000
pub under_ceiling : (n : ℕ) (ceiling : List ℤ) (x : Vector) (s : Choices) → AreWithin 1000000 n ceiling → ((k : ℕ) → k < n → s (suc k) ≡ true → x (suc k) <ℤ with_null ceiling (suc k)) → (k : ℕ) → k < n → s (suc k) ≡ true → x (suc k) <ℤ pos 1000000
under_ceiling n ceiling x s c h k l e =
    let over : k < length ceiling = omega arith in
    let b = c.1 k (pos 0) over in
    let u = h k l e in
    omega (arith, ints)

-- prices within 1,000,000 may rise as far as to a ceiling within it
pub may_rise : (n : ℕ) (ceiling prices : List ℤ) (s : Choices) (by : ℤ) → AreWithin 1000000 n ceiling → AreWithin 1000000 n prices → s 0 ≡ false → pos 0 ≤ℤ by → ((k : ℕ) → k < n → s (suc k) ≡ true → (with_null prices (suc k) +ℤ by) ≤ℤ with_null ceiling (suc k)) → AreEntries (length prices) (raised (with_null prices) s by)
may_rise n ceiling prices s by c w o some low zero h = let e = ap (λ (b : Bool). pos 0 +ℤ cond b by (pos 0)) o in (omega (arith, ints), omega (arith, ints))
may_rise n ceiling prices s by c w o some low (suc k) h = at (get_or prices k (pos 0)) (get_or ceiling k (pos 0)) (s (suc k)) (w.1 k (pos 0) (omega arith)) (c.1 k (pos 0) (omega arith)) (low k (omega arith))
  where
    at : (a top : ℤ) (b : Bool) → Lies 1000000 a → Lies 1000000 top → (b ≡ true → (a +ℤ by) ≤ℤ top) → Lies 4000000 (a +ℤ cond b by (pos 0))
    at a top true r t h = let u = h refl in (omega (arith, ints), omega (arith, ints))
    at a top false r t h = (omega (arith, ints), omega (arith, ints))
