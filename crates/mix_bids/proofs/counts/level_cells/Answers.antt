use Rattle.std.proofs.Common.{◌+◌, ◌≤◌, arith, ap, ◌∙◌, cond, eqb, get_or}
use Rattle.mix_bids.specs.Levels.{other}
use Rattle.mix_bids.proofs.LevelTurns.{product_none, product_step}
use Rattle.mix_bids.proofs.Powers.{power_most, power_step}
use Rattle.mix_bids.proofs.counts.level_cells.Goals as goal

pub loop-place-init : goal.loop-place-init
loop-place-init c = record { product = product_none (λ k. cond (eqb (other c.args.first c.args.second k) 0) 0 1 + get_or c.args.leads.now k 0); size = omega arith }

pub overflow_mul-product : goal.overflow_mul-product
overflow_mul-product c =
    let r = c.requires.few c.loop-place.place (omega arith) in
    let f : c.one_for_good.result + get_or c.args.leads.now c.loop-place.place 0 ≤ 401 = omega arith in
    let p = power_most _ _ (power_step c.loop-place.product _ c.loop-place.place c.loop-place.invariant.size f) (omega arith) in
    omega arith

pub loop-place-preserved : goal.loop-place-preserved
loop-place-preserved c =
    let r = c.requires.few c.loop-place.place (omega arith) in
    let f : c.one_for_good.result + get_or c.args.leads.now c.loop-place.place 0 ≤ 401 = omega arith in
    record {
      product = product_step c.loop-place.place (λ k. cond (eqb (other c.args.first c.args.second k) 0) 0 1 + get_or c.args.leads.now k 0) _ _ c.loop-place.invariant.product
          (ap (λ z. z + get_or c.args.leads.now c.loop-place.place 0) (c.one_for_good.ensures.value ∙ ap (λ z. cond (eqb z 0) 0 1) c.other.ensures.value));
      size = power_step _ _ _ c.loop-place.invariant.size f;
    }

pub returns-clause-range : goal.returns-clause-range
returns-clause-range c = power_most _ _ c.loop-place.invariant.size (omega arith)
