use Rattle.std.proofs.Common.{pos, get_or, arith, ap, ◌∙◌, subst}
use Rattle.std.proofs.lemmas.Int.{ints}
use Rattle.mix_facets.specs.Grids.{IsRising}
use Rattle.mix_facets.proofs.Risings.{rising_from}
use Rattle.mix_facets.proofs.numbers.Numbers.first_from.Goals as goal

pub returns-then-number-bound-clause-from : goal.returns-then-number-bound-clause-from
returns-then-number-bound-clause-from c = λ k h l.
    let e = ap (λ z. get_or z c.loop-place.place (pos 0)) (c.deref-number-items.ensures.value ∙ c.self.view_is) in
    let t = c.if-number-bound.true in
    rising_from c.args.self.now c.loop-place.place k c.args.bound (subst IsRising c.self.view_is c.self.invariant) (omega (arith, ints)) h l
