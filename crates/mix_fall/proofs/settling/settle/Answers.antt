use Rattle.std.proofs.Common.{arith, refl}
use Rattle.std.proofs.lemmas.Int.{ints}
use Rattle.mix_num.specs.Vectors.{with_null}
use Rattle.mix_market.specs.Markets.{lyapunov_of, goods_of}
use Rattle.mix_market.specs.Gaps.{greatest_gap}
use Rattle.mix_step.proofs.Gaps.{gap_least, gap_covers}
use Rattle.mix_step.proofs.Rises.{same_point}
use Rattle.mix_fall.proofs.settling.settle.Goals as goal

pub returns-clause-cost : goal.returns-clause-cost
returns-clause-cost g c = λ u z least.
    let market = c.args.market.now in
    let n = goods_of market in
    let start = with_null c.args.start.now.items in
    let high = with_null c.rise-high.result.items in
    let answer = with_null c.fall.result.items in
    let same = same_point n (lyapunov_of market) start high u refl z c.rise-high.ensures.least least in
    let up = gap_least n high start (greatest_gap n u start) (λ k h. let e = same k h in let gap = gap_covers n u start k h in omega (arith, ints)) in
    let down = gap_least n high answer (greatest_gap n u answer) (λ k h. let e = same k h in let gap = gap_covers n u answer k h in omega (arith, ints)) in
    omega (arith, ints)
