use Rattle.std.proofs.Common.{◌≡◌, ◌∙◌, arith, ap₂, to_z, of_z, w64}
use Rattle.std.proofs.lemmas.Int.{ints, clamps}
use Rattle.std.specs.Int.{int_min}
use Rattle.mix_cap.proofs.Counts.{left_is, total_counts}
use Rattle.mix_cap.proofs.capped.Capped.left.Goals as goal

pub returns-clause-value : goal.returns-clause-value
returns-clause-value c =
    let r = c.args.self.now.range in
    let s = c.total-total.ensures.range in
    let t : to_z w64 (of_z w64 c.total-total.result) ≡ c.total-total.result = omega (arith, ints, s.0, s.1) in
    let u : to_z w64 (of_z w64 c.args.self.now.cap) ≡ c.args.self.now.cap = omega (arith, ints, r.0, r.1) in
    let p = total_counts c.args.self.now.list.bids c.args.self.now.positive in
    let v = c.total-total.ensures.value in
    let e = left_is c.args.self.now.cap c.total-total.result c.min.result c.args.self.now.list.bids c.args.self.now.positive r.0 c.total-total.ensures.value (c.min.ensures.value ∙ ap₂ int_min t u) in
    omega (arith, ints, clamps, r.0, r.1, s.0, s.1)

pub returns-clause-range : goal.returns-clause-range
returns-clause-range c =
    let r = c.args.self.now.range in
    let s = c.total-total.ensures.range in
    let t = total_counts c.args.self.now.list.bids c.args.self.now.positive in
    let v = c.total-total.ensures.value in
    (omega (arith, ints, clamps, r.0, r.1, s.0, s.1), omega (arith, ints, clamps, r.0, r.1, s.0, s.1))
