use Rattle.std.proofs.Common.{arith, ap, length}
use Rattle.mix_bids.specs.Levels.{has_lead}
use Rattle.mix_facets.proofs.Places.{length-places, length-kept}
use Rattle.mix_facets.proofs.level.Level.count.Goals as goal

pub returns-clause-value : goal.returns-clause-value
returns-clause-value c =
    let l = c.args.self.now in
    let p = has_lead l.first l.second l.difference in
    omega (arith, c.len.ensures, c.self.inside.places.ok, ap (λ z. length z.places) c.self.view_is, ap length c.requires.bids, length-places p 0 c.args.list.now.bids)

pub returns-clause-few : goal.returns-clause-few
returns-clause-few c =
    let l = c.args.self.now in
    let p = has_lead l.first l.second l.difference in
    omega (arith, c.len.ensures, c.self.inside.places.ok, ap (λ z. length z.places) c.self.view_is, ap length c.requires.bids, length-places p 0 c.args.list.now.bids, length-kept p c.args.list.now.bids, c.bids-bids.ensures.few, ap length c.bids-bids.ensures.value)
