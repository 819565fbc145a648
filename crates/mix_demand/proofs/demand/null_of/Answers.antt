use Rattle.std.proofs.Common.{◌≡◌, ℕ, suc, ◌+◌, ◌-◌, ◌^◌, length, arith, ap, ◌∙◌}
use Rattle.std.proofs.lemmas.Int.{ints}
use Rattle.mix_num.specs.Sums.{total}
use Rattle.mix_num.specs.Tables.{number_of, whole}
use Rattle.mix_num.proofs.Additions.{sum-all_goods}
use Rattle.mix_demand.proofs.demand.null_of.Goals as goal

pub returns-clause-value : goal.returns-clause-value
returns-clause-value c =
    let n = c.len-goods.ensures.value in
    let all : c.whole.result ≡ whole (length c.args.bundle.now.items) =
    c.whole.ensures ∙ ap (λ (k : ℕ). 2 ^ k - 1) (let e : c.len-goods.result + 1 ≡ suc (length c.args.bundle.now.items) = omega arith in e) in
    let number : c.at.result ≡ number_of c.args.rho.now (whole (length c.args.bundle.now.items)) = c.at.ensures.value ∙ ap (λ (k : ℕ). number_of c.args.rho.now k) all in
    let sum : c.sum_over.result ≡ total c.args.bundle.now.items = sum-all_goods c.args.bundle.now.items c.len-goods.result c.goods.result c.sum_over.result n c.goods.ensures c.sum_over.ensures.value in
    omega (arith, ints, number, sum, c.at.ensures.range, c.sum_over.ensures.range)

pub returns-clause-range : goal.returns-clause-range
returns-clause-range c =
    let near = c.sum_over.ensures.near 0 (omega (arith, ints), omega (arith, ints)) in
    (omega (arith, ints, c.at.ensures.range, near), omega (arith, ints, c.at.ensures.range, near))
