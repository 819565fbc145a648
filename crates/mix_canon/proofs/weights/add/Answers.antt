use Rattle.std.proofs.Common.{arith}
use Rattle.std.proofs.lemmas.Int.{ints}
use Rattle.mix_canon.proofs.Entries.{updated}
use Rattle.mix_canon.proofs.weights.add.Goals as goal

pub returns : goal.returns
returns c =
    let s = c.requires.so_far in
    let w = c.requires.weight in
    let e = c.weight_so_far.ensures in
    updated c.args.weights.now c.insert.new.self c.copy.result _ c.args.weight c.args.values.now.items (λ q. c.in-Ok.ensures.updates.0 q) c.copy.ensures (omega (arith, ints, s.0, s.1, w.0, w.1))
