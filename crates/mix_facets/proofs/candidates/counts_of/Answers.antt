use Rattle.std.proofs.Common.{arith, ap, ◌∙◌}
use Rattle.mix_facets.specs.Levels.{bids_of}
use Rattle.mix_facets.specs.Points.{IsCoordinate, IsNullCoordinate}
use Rattle.mix_facets.specs.Candidates.{counting_from}
use Rattle.mix_facets.proofs.Steps.{images_step, images_end, All-added}
use Rattle.mix_facets.proofs.candidates.counts_of.Goals as goal

pub loop-number-preserved : goal.loop-number-preserved
loop-number-preserved c =
    let bs = bids_of c.args.list.now c.args.level.now in
    let h = counting_from c.args.level.now.first c.args.choice in
    let v = ap (λ z. z.first) c.level.view_is in
    let e = c.counting_from.ensures in
    let s = c.in_ok-insert.ensures in
    let i = c.loop-number.invariant in
    record {
      members = images_step h bs c.loop-number.number c.bid.result.now c.counting_from.result c.loop-number.numbers c.insert.new.self (omega (arith, c.loop-number-test.true, c.count-number-end.ensures.value)) c.bid.ensures.value (e.value ∙ ap (λ k. counting_from k c.args.choice c.bid.result.now) v) s.added i.members;
      few = omega (arith, s.longer, i.few);
      near = All-added IsCoordinate c.counting_from.result c.loop-number.numbers c.insert.new.self s.added e.near i.near;
      null = λ z. All-added IsNullCoordinate c.counting_from.result c.loop-number.numbers c.insert.new.self s.added (λ u q. e.null u z q) (i.null z);
    }

pub returns-clause-members : goal.returns-clause-members
returns-clause-members c =
    let bs = bids_of c.args.list.now c.args.level.now in
    images_end (counting_from c.args.level.now.first c.args.choice) bs c.loop-number.number c.loop-number.numbers (omega (arith, c.count-number-end.ensures.value)) c.loop-number.invariant.members
