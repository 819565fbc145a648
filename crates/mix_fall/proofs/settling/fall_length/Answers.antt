use Rattle.std.proofs.Common.{◌≡◌, ℤ, pos, ◌*ℤ◌, ◌≤ℤ◌, to_z, of_z, w64, arith, subst}
use Rattle.std.proofs.lemmas.Int.{ints}
use Rattle.mix_num.specs.Vectors.{members, with_null}
use Rattle.mix_market.specs.Markets.{goods_of, lyapunov_of}
use Rattle.mix_fall.specs.LongFalls.{IsLongFall}
use Rattle.mix_fall.proofs.settling.fall_length.Goals as goal

pub loop-length-preserved : goal.loop-length-preserved
loop-length-preserved g c =
    let market = c.args.market.now in
    let length = to_z w64 c.loop-length.length-bits in
    let some = c.loop-length.invariant.long.some in
    let is = c.loop-length.length-is in
    let few : length ≤ℤ pos 1000000 = grind (arith, ints) in
    let same : to_z w64 (of_z w64 (pos 2 *ℤ length)) ≡ to_z w64 (of_z w64 (length *ℤ pos 2)) = omega (arith, ints) in
    record {
      long = subst (λ (z : ℤ). IsLongFall (goods_of market) (lyapunov_of market) (with_null c.args.floor.now.items) (with_null c.args.prices.now.items) (members c.args.set) z) same (c.falls_evenly.ensures c.if-falls_evenly.true);
      most = omega (arith, ints);
    }
