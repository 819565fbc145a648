-- A fall of a set of goods by one is a fall of all choices and a rise of the others.
use Rattle.std.proofs.Common.{◌≡◌, ℕ, zero, suc, ◌<◌, Bool, true, false, not, List, [], ◌∷◌, All, length, ℤ, pos, neg_ℤ, ◌+ℤ◌, ◌-ℤ◌, ◌*ℤ◌, ◌≤ℤ◌, arith, ap, refl}
use Rattle.std.proofs.lemmas.Int.{ints}
use Rattle.std.proofs.lemmas.List.Elements.{All-head, All-tail}
use Rattle.mix_num.specs.Vectors.{Vector, Choices, bit, members, minus, plus, shifted, sum_to, dot_to, with_null}
use Rattle.mix_law.specs.Members.{KeepsLocal, fall_of}
use Rattle.mix_market.specs.Lyapunov.{lyapunov, sum_of}
use Rattle.mix_market.specs.Memberships.{sum_of_totals}
use Rattle.mix_market.specs.Steepest.{slope_down, slope_of}
use Rattle.mix_market.proofs.MarketLaws.{slope-is}

-- a fall of a set costs the rise of the others, and the total
pub slope_down-is : {n : ℕ} {l : Vector → ℤ} {w : ℤ} → KeepsLocal n l w → (x : Vector) (s t : Choices) → ((k : ℕ) → k < suc n → t k ≡ not (s k)) → slope_down l x s ≡ slope_of l x t +ℤ w
slope_down-is {n} {l} {w} c x s t h =
    let e = c.reads (minus x s) (shifted (plus x t) (neg_ℤ (pos 1))) (λ k i. back (x k) (s k) (t k) (h k (omega arith))) in
    let d = c.shift (plus x t) (neg_ℤ (pos 1)) in
    omega (arith, ints)
  where
    back : (a : ℤ) (b u : Bool) → u ≡ not b → a -ℤ bit b ≡ (a +ℤ bit u) +ℤ neg_ℤ (pos 1)
    back a true u e = let f = ap (λ (v : Bool). bit v) e in omega (arith, ints)
    back a false u e = let f = ap (λ (v : Bool). bit v) e in omega (arith, ints)

-- a sum over a set and one over the others are one over all
both_sums : (q : Vector) (s t : Choices) (m : ℕ) → ((k : ℕ) → k < m → t k ≡ not (s k)) → dot_to m q (λ k. bit (s k)) +ℤ dot_to m q (λ k. bit (t k)) ≡ sum_to m q
both_sums q s t zero h = refl
both_sums q s t (suc m) h =
    let before = both_sums q s t m (λ k l. h k (omega arith)) in
    let here = one (q m) (s m) (t m) (h m (omega arith)) in
    omega (arith, ints)
  where
    one : (a : ℤ) (b u : Bool) → u ≡ not b → (a *ℤ bit b) +ℤ (a *ℤ bit u) ≡ a
    one a true u e = let f = ap (λ (v : Bool). a *ℤ bit v) e in omega (arith, ints)
    one a false u e = let f = ap (λ (v : Bool). a *ℤ bit v) e in omega (arith, ints)

-- for a market: the total less the fall of the others, less the supply of the set
pub slope_down-by_others : (functions : List (Vector → ℤ)) (supply : List ℤ) (total : ℤ) → KeepsLocal (length supply) (lyapunov functions supply) (total -ℤ sum_to (suc (length supply)) (with_null supply))
    → (x : Vector) (s t : Choices) → ((k : ℕ) → k < suc (length supply) → t k ≡ not (s k))
    → slope_down (lyapunov functions supply) x s ≡ (total -ℤ fall_of (sum_of functions) x t) -ℤ dot_to (suc (length supply)) (with_null supply) (λ good. bit (s good))
slope_down-by_others functions supply total c x s t h =
    let a = slope_down-is c x s t h in
    let b = slope-is functions supply x t in
    let d = both_sums (with_null supply) s t (suc (length supply)) h in
    omega (arith, ints)

-- the range of the sum of the members' totals
pub totals_range : {D : Type 0} (weight : D → ℤ) (members : List D) → All (λ member. (pos 0 ≤ℤ weight member) × (weight member ≤ℤ pos 8000000)) members
    → (pos 0 ≤ℤ sum_of_totals weight members) × (sum_of_totals weight members ≤ℤ (pos 8000000 *ℤ pos (length members)))
totals_range weight [] h = (omega (arith, ints), omega (arith, ints))
totals_range {D} weight (member ∷ members) h =
    let P : D → Type 0 = λ d. (pos 0 ≤ℤ weight d) × (weight d ≤ℤ pos 8000000) in
    let here = All-head P member members h in
    let rest = totals_range weight members (All-tail P member members h) in
    (omega (arith, ints, here.0, rest.0), omega (arith, ints, here.1, rest.1))
