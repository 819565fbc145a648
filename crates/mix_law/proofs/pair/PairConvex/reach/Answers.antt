use Rattle.std.proofs.Common.{◌≡◌, ◌∙◌, ℤ, arith, ap₂, to_z, of_z, w64}
use Rattle.std.proofs.lemmas.Int.{ints, clamps}
use Rattle.std.specs.Int.{int_min}
use Rattle.mix_num.specs.Vectors.{members, with_null}
use Rattle.mix_law.proofs.Linear.{sum_of_steps}
use Rattle.mix_law.proofs.pair.PairConvex.reach.Goals as goal

pub returns-clause-linear : goal.returns-clause-linear
returns-clause-linear g c = λ m h.
    let first = c.reach.ensures.linear m (omega (arith, ints, clamps)) in
    let second = c.reach-2.ensures.linear m (omega (arith, ints, clamps)) in
    sum_of_steps (g.A.Convex.function c.args.self.now.first) (g.B.Convex.function c.args.self.now.second) (with_null c.args.prices.now.items) m (members c.args.set) first second

lesser : (a b r c u v : ℤ) → c ≡ r → r ≡ int_min a b → a ≡ u → b ≡ v → c ≡ int_min u v
lesser a b r c u v d e h k = d ∙ e ∙ ap₂ int_min h k

pub returns-clause-value : goal.returns-clause-value
returns-clause-value g c =
    let x = with_null c.args.prices.now.items in
    let set = members c.args.set in
    let first : to_z w64 (of_z w64 c.reach.result) ≡ g.A.Convex.reach c.args.self.now.first x set = omega (arith, ints, c.reach.ensures.value, c.reach.ensures.range.0, c.reach.ensures.range.1) in
    let second : to_z w64 (of_z w64 c.reach-2.result) ≡ g.B.Convex.reach c.args.self.now.second x set = omega (arith, ints, c.reach-2.ensures.value, c.reach-2.ensures.range.0, c.reach-2.ensures.range.1) in
    let least : to_z w64 (of_z w64 c.min.result) ≡ c.min.result = omega (arith, ints) in
    lesser (to_z w64 (of_z w64 c.reach.result)) (to_z w64 (of_z w64 c.reach-2.result)) c.min.result (to_z w64 (of_z w64 c.min.result))
    (g.A.Convex.reach c.args.self.now.first x set) (g.B.Convex.reach c.args.self.now.second x set) least c.min.ensures.value first second
