use Rattle.std.proofs.Common.{◌≡◌, ◌<◌, ℤ, ◌*ℤ◌, pos, get_or, length, arith, ap₂, ◌∙◌, to_z, of_z, w64}
use Rattle.std.proofs.lemmas.Int.{ints}
use Rattle.mix_num.specs.Vectors.{with_null}
use Rattle.mix_market.proofs.Costs.{dot_next}
use Rattle.mix_market.proofs.supply.cost.Goals as goal

pub overflow_add-sum : goal.overflow_add-sum
overflow_add-sum c = omega (arith, ints)

pub loop-place-preserved : goal.loop-place-preserved
loop-place-preserved c =
    let place = c.loop-place.place in
    let inside : place < length c.args.prices.now = omega arith in
    let amount = c.requires.supply.1 place (pos 0) c.loop-place-test.true in
    let price = c.requires.prices.1 place (pos 0) inside in
    let a : to_z w64 (of_z w64 (get_or c.args.supply.now place (pos 0))) ≡ get_or c.args.supply.now place (pos 0) = omega (arith, ints) in
    let b : to_z w64 (of_z w64 (get_or c.args.prices.now place (pos 0))) ≡ get_or c.args.prices.now place (pos 0) = omega (arith, ints) in
    let v = c.worth_of-sum.ensures.value ∙ ap₂ (λ (u w : ℤ). u *ℤ w) a b in
    record {
      value = dot_next (with_null c.args.supply.now) (with_null c.args.prices.now) place _ _ _ c.loop-place.invariant.value v (omega (arith, ints));
      range = (omega (arith, ints), omega (arith, ints));
    }
