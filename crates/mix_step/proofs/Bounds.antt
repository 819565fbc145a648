-- No good rises past 1,000,000, nor past the members' tops: from there on no member wants it, so it is in no minimal steepest set.
use Rattle.std.proofs.Common.{◌≡◌, ℕ, zero, suc, ◌≤◌, ◌<◌, Bool, true, false, cond, eqb, All, ℤ, pos, ◌+ℤ◌, ◌-ℤ◌, ◌≤ℤ◌, ◌<ℤ◌, int_lt, refl, arith, ap, eq-eqb, eqb-true}
use Rattle.std.proofs.lemmas.Int.{ints, clamps}
use Rattle.std.proofs.Math.Dec.{eqb-zero-suc}
use Rattle.std.specs.Int.{int_max}
use Rattle.mix_num.specs.Vectors.{Vector, Choices, bit, plus, minus, only}
use Rattle.mix_law.specs.declared.convex.Convex.{Ghosts}
use Rattle.mix_market.specs.declared.market.Market.{Market}
use Rattle.mix_market.specs.Extremes.{greatest_of}
use Rattle.mix_market.specs.Lyapunov.{IsBelow, IsLeastPoint}
use Rattle.mix_market.specs.Markets.{members_of, seller_of, goods_of, lyapunov_of}
use Rattle.mix_market.specs.Steepest.{IsMinimalSteepest}
use Rattle.mix_market.proofs.MemberExtremes.{greatest_covers}
use Rattle.mix_market.proofs.MarketFacts.{market_keeps, market_far}
use Rattle.mix_step.proofs.Climbs.{not_wanted, without}

module _ {D : Type 0} {g : Ghosts D} (market : Market D g) where
  pub rises_low : (x : Vector) (s : Choices) → x 0 ≡ pos 0 → IsMinimalSteepest (goods_of market) (lyapunov_of market) x s → (k : ℕ) → k < goods_of market → s (suc k) ≡ true → x (suc k) <ℤ pos 1000000
  rises_low x s null m k h inside = at (int_lt (x (suc k)) (pos 1000000)) refl
    where
      fewer : Choices
      fewer = without (suc k) s

      own : plus x fewer (suc k) ≡ x (suc k)
      own = let e = ap (λ (b : Bool). x (suc k) +ℤ bit (cond b false (s (suc k)))) (eq-eqb (suc k) (suc k) refl) in omega (arith, ints)

      base : plus x fewer 0 ≡ pos 0
      base = let e = ap (λ (b : Bool). x 0 +ℤ bit (cond b false (s 0))) (eqb-zero-suc k) in let f = ap (λ (b : Bool). x 0 +ℤ bit b) m.goods in omega (arith, ints)

      at : (b : Bool) → int_lt (x (suc k)) (pos 1000000) ≡ b → x (suc k) <ℤ pos 1000000
      at true e = grind (arith, ints)
      at false e =
          let high : pos 1000000 ≤ℤ x (suc k) = grind (arith, ints) in
          let tops = market.priced in
          let top = tops.ranges.1 k (pos 0) (omega arith) in
          let tired : All (λ member. g.top member (suc k) ≤ℤ (plus x fewer (suc k) -ℤ plus x fewer 0)) (members_of market) = λ j d l. let u = greatest_covers (λ member. g.top member (suc k)) (members_of market) j d l in let e = tops.greatest k h in omega (arith, ints, own, base) in
          let far = market_far market (plus x fewer) (suc k) (omega arith) h tired in
          let supply = (seller_of market).for_sale.supplies.1 k (pos 0) h in
          absurd (not_wanted (market_keeps market) x s m (suc k) h (omega (arith, ints)) inside)

  -- no good of a least point is above both its start and the members' tops
  pub least_below_tops : (start p : Vector) → p 0 ≡ pos 0 → IsLeastPoint (goods_of market) (lyapunov_of market) start p → (good : ℕ) → 1 ≤ good → good ≤ goods_of market → p good ≤ℤ int_max (start good) (greatest_of (λ member. g.top member good) (members_of market))
  least_below_tops start p null least zero some few = absurd (omega arith)
  least_below_tops start p null least (suc k) some few = at (int_lt (int_max (start (suc k)) (greatest_of (λ member. g.top member (suc k)) (members_of market))) (p (suc k))) refl
    where
      fewer : Vector
      fewer = minus p (only (suc k))

      own : fewer (suc k) ≡ p (suc k) -ℤ pos 1
      own = ap (λ (b : Bool). p (suc k) -ℤ bit b) (eq-eqb (suc k) (suc k) refl)

      base : fewer 0 ≡ pos 0
      base = let e = ap (λ (b : Bool). p 0 -ℤ bit b) (eqb-zero-suc k) in omega (arith, ints)

      at : (b : Bool) → int_lt (int_max (start (suc k)) (greatest_of (λ member. g.top member (suc k)) (members_of market))) (p (suc k)) ≡ b
          → p (suc k) ≤ℤ int_max (start (suc k)) (greatest_of (λ member. g.top member (suc k)) (members_of market))
      at false e = grind (arith, ints)
      at true e =
          let high : int_max (start (suc k)) (greatest_of (λ member. g.top member (suc k)) (members_of market)) <ℤ p (suc k) = grind (arith, ints) in
          let above : IsBelow (goods_of market) start fewer = λ j i. lower_good (start j) (p j) (eqb j (suc k)) (least.above j i) (λ q. let same = ap (λ (v : ℕ). p v -ℤ start v) (eqb-true j (suc k) q) in omega (arith, ints, clamps)) in
          let tired : All (λ member. g.top member (suc k) ≤ℤ (fewer (suc k) -ℤ fewer 0)) (members_of market) = λ j d l. let u = greatest_covers (λ member. g.top member (suc k)) (members_of market) j d l in omega (arith, ints, clamps, own, base) in
          let far = market_far market fewer (suc k) some few tired in
          let back = (market_keeps market).reads p (plus fewer (only (suc k))) (λ j i. put_on (p j) (eqb j (suc k))) in
          let supply = (seller_of market).for_sale.supplies.1 k (pos 0) (omega arith) in
          let low = least.least fewer base above in
          let lowest = least.lowest fewer base above (omega (arith, ints)) (suc k) few in
          absurd (omega (arith, ints, lowest, own))
        where
          lower_good : (a b : ℤ) (s : Bool) → a ≤ℤ b → (s ≡ true → a <ℤ b) → a ≤ℤ (b -ℤ bit s)
          lower_good a b true h f = let l = f refl in omega (arith, ints)
          lower_good a b false h f = omega (arith, ints)

          put_on : (a : ℤ) (s : Bool) → a ≡ (a -ℤ bit s) +ℤ bit s
          put_on a s = omega (arith, ints)
