use Rattle.std.proofs.Common.{◌+◌, arith, pow_mono}
use Rattle.std.proofs.lemmas.Nat.{one_shl}
use Rattle.mix_num.proofs.set.Set.goods.Goals as goal

pub invariant_of-result : goal.invariant_of-result
invariant_of-result c = omega (arith, one_shl (c.args.n + 1) 16 (omega arith), pow_mono {i = c.args.n + 1} {j = 9} (omega arith))
