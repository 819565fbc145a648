use Rattle.std.proofs.Common.{◌≡◌, ◌∙◌, ℤ, pos, arith, ap, to_z, of_z, w64}
use Rattle.std.proofs.lemmas.Int.{ints, clamps}
use Rattle.std.specs.Int.{int_min}
use Rattle.mix_num.specs.Vectors.{members, with_null}
use Rattle.mix_descent.proofs.tests.TakerConvex.reach.Goals as goal

lesser : (a r c u : ℤ) → c ≡ r → r ≡ int_min a (pos 2) → a ≡ u → c ≡ int_min u (pos 2)
lesser a r c u d e h = d ∙ e ∙ ap (λ (z : ℤ). int_min z (pos 2)) h

pub returns-clause-value : goal.returns-clause-value
returns-clause-value g c =
    let range = c.reach.ensures.range in
    let span = g.D.Convex.reach c.args.self.now.taken (with_null c.args.prices.now.items) (members c.args.set) in
    let taken : to_z w64 (of_z w64 c.reach.result) ≡ span = omega (arith, ints, c.reach.ensures.value, range.0, range.1) in
    let least : to_z w64 (of_z w64 c.min.result) ≡ c.min.result = omega (arith, ints) in
    lesser (to_z w64 (of_z w64 c.reach.result)) c.min.result (to_z w64 (of_z w64 c.min.result)) span least c.min.ensures.value taken

pub returns-clause-linear : goal.returns-clause-linear
returns-clause-linear g c = λ m h. c.reach.ensures.linear m (omega (arith, ints, clamps))
