use Rattle.std.proofs.Common.{arith}
use Rattle.std.proofs.lemmas.Int.{ints, clamps}
use Rattle.mix_cap.proofs.Counts.{total_counts}
use Rattle.mix_cap.proofs.capped.Capped.served.Goals as goal

pub returns-clause-range : goal.returns-clause-range
returns-clause-range c =
    let r = c.args.self.now.range in
    let s = c.total.ensures.range in
    let t = total_counts c.args.self.now.list.bids c.args.self.now.positive in
    (omega (arith, ints, clamps, r.0, r.1, s.0, s.1), omega (arith, ints, clamps, r.0, r.1, s.0, s.1))
