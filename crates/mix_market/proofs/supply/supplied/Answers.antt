use Rattle.std.proofs.Common.{◌≡◌, ℤ, suc, ◌*ℤ◌, pos, get_or, arith, ap, ap₂, ◌∙◌, to_z, of_z, w64, add-one, Bool}
use Rattle.std.proofs.lemmas.Int.{ints}
use Rattle.mix_num.specs.Vectors.{bit, members, with_null}
use Rattle.mix_market.proofs.Costs.{dot_next}
use Rattle.mix_market.proofs.supply.supplied.Goals as goal

pub loop-place-preserved : goal.loop-place-preserved
loop-place-preserved c =
    let place = c.loop-place.place in
    let amount = c.requires.supply.1 place (pos 0) c.loop-place-test.true in
    let a : to_z w64 (of_z w64 (get_or c.args.supply.now place (pos 0))) ≡ get_or c.args.supply.now place (pos 0) = omega (arith, ints) in
    let within : c.has.result ≡ members c.args.set (suc place) = c.has.ensures ∙ ap (members c.args.set) (add-one place) in
    let v = c.amount_where-sum.ensures.value ∙ ap₂ (λ (u : ℤ) (b : Bool). u *ℤ bit b) a within in
    record {
      value = dot_next (with_null c.args.supply.now) (λ good. bit (members c.args.set good)) place _ _ _ c.loop-place.invariant.value v (omega (arith, ints));
      low = omega (arith, ints);
      high = omega (arith, ints);
    }
