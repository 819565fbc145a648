use Rattle.std.proofs.Common.{◌≢◌, ◌+◌, ◌∙◌, ap, ap₂, arith, below_more, cond, get_or-set_other, get_or-set_same, length-set}
use Rattle.mix_num.specs.Vectors.{members}
use Rattle.mix_bids.proofs.counts.with_fresh.Goals as goal

pub loop-place-preserved : goal.loop-place-preserved
loop-place-preserved c =
    let m = c.loop-place.place in
    let size = c.loop-place.invariant.size in
    record {
      size = length-set c.loop-place.leads m _ ∙ size;
      counted = below_more _ m
          (λ k l. get_or-set_other c.loop-place.leads m k _ 0 (let ne : k ≢ m = omega arith in ne) ∙ c.loop-place.invariant.counted k l)
          (get_or-set_same c.loop-place.leads m _ 0 (omega arith) ∙ ap₂ (λ x y. x + y) (c.loop-place.invariant.left m (omega arith)) (c.one_where.ensures ∙ ap (λ z. cond z 1 0) (c.has.ensures ∙ ap (members c.args.fresh) c.other.ensures.value)));
      left = λ k l. get_or-set_other c.loop-place.leads m k _ 0 (let ne : k ≢ m = omega arith in ne) ∙ c.loop-place.invariant.left k (omega arith);
    }
