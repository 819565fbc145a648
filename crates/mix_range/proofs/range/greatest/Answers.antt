use Rattle.std.proofs.Common.{◌∙◌, suc, arith, sym, refl, ⊎_elim}
use Rattle.std.proofs.lemmas.Bool.{false≢true}
use Rattle.mix_num.specs.Vectors.{with_null}
use Rattle.mix_market.specs.Gaps.{IsAboveSomewhere}
use Rattle.mix_market.specs.Lyapunov.{IsBelow}
use Rattle.mix_market.specs.Markets.{goods_of}
use Rattle.mix_step.proofs.Gaps.{below_or_above}
use Rattle.mix_range.proofs.range.greatest.Goals as goal

pub returns-else-is_below-clause-none : goal.returns-else-is_below-clause-none
returns-else-is_below-clause-none g c =
    let n = goods_of c.args.market.now in
    let low = with_null c.args.low.now.items in
    let ceiling = with_null c.args.ceiling.now.items in
    let wrong : IsBelow n low ceiling → IsAboveSomewhere n low ceiling = λ b. absurd (false≢true (sym c.if-is_below.false ∙ c.is_below.ensures.1 (λ k h. b (suc k) (omega arith)))) in
    (λ e. ⊎_elim wrong (λ a. a) (below_or_above n low ceiling), λ a. refl)
