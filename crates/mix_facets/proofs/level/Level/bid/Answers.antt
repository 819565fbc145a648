use Rattle.std.proofs.Common.{◌≡◌, arith, sym, ap, ap₂, subst, ◌∙◌, length, get_or}
use Rattle.std.proofs.lemmas.List.{get_or_default}
use Rattle.std.proofs.lemmas.List.Elements.{All-get_or}
use Rattle.mix_bids.specs.Bids.{IsBid}
use Rattle.mix_bids.specs.Levels.{has_lead}
use Rattle.mix_facets.specs.Levels.{places, bids_of}
use Rattle.mix_facets.proofs.Places.{length-places, IsPlaced, placed}
use Rattle.mix_facets.proofs.level.Level.bid.Goals as goal
use Rattle.mix_facets.proofs.level.Level.bid.Goals.{After-index}

-- the place of the bid
place_of : (c : After-index) → IsPlaced (places (has_lead c.args.self.now.first c.args.self.now.second c.args.self.now.difference) 0 c.args.list.now.bids) 0 c.args.list.now.bids (bids_of c.args.list.now c.args.self.now) c.args.number
place_of c =
    let l = c.args.self.now in
    let p = has_lead l.first l.second l.difference in
    placed p 0 c.args.list.now.bids c.args.number (omega (arith, c.requires.number, length-places p 0 c.args.list.now.bids))

pub index-requires : goal.index-requires
index-requires c =
    let l = c.args.self.now in
    let p = has_lead l.first l.second l.difference in
    omega (arith, c.self.inside.places.ok, c.requires.number, ap (λ z. length z.places) c.self.view_is, ap length c.requires.level.bids, length-places p 0 c.args.list.now.bids)

-- what is read is that place
read : (c : After-index) → c.index.result.now ≡ (place_of c).place
read c =
    let l = c.args.self.now in
    let p = has_lead l.first l.second l.difference in
    let w = place_of c in
    let e : c.index.result.now ≡ get_or (places p 0 c.args.list.now.bids) c.args.number 0 =
    c.index.ensures ∙ ap (λ z. get_or z c.args.number c.index.result.now) (ap (λ z. z.places) c.self.view_is ∙ c.requires.level.bids)
    ∙ get_or_default (places p 0 c.args.list.now.bids) c.args.number c.index.result.now 0 (omega (arith, c.requires.number, length-places p 0 c.args.list.now.bids)) in
    omega (arith, e, w.is)

pub offset_bounds-bids-index : goal.offset_bounds-bids-index
offset_bounds-bids-index c =
    let k = (goal.at.offset_bounds-bids-index c).After-index in
    let e = read k in
    let b = (place_of k).below in
    let f = c.bids.ensures in
    record { fits = omega (arith, f.few, ap length f.value) }

pub bounds-bids-index : goal.bounds-bids-index
bounds-bids-index c =
    let k = (goal.at.bounds-bids-index c).After-index in
    let e = read k in
    let b = (place_of k).below in
    omega (arith, ap length c.bids.ensures.value)

pub returns-clause-value : goal.returns-clause-value
returns-clause-value c =
    let k = (goal.at.returns-clause-value c).After-index in
    let w = place_of k in
    c.index-bids-index.is ∙ ap₂ (λ xs n. get_or xs n c.index-bids-index.result) c.bids.ensures.value (read k) ∙ w.bid c.index-bids-index.result

pub returns-clause-proper : goal.returns-clause-proper
returns-clause-proper c =
    let k = (goal.at.returns-clause-proper c).After-index in
    let e = read k in
    let b = (place_of k).below in
    subst (IsBid c.args.list.now.goods) (sym c.index-bids-index.is) (All-get_or (IsBid c.args.list.now.goods) c.bids.result.now c.index.result.now c.index-bids-index.result (omega (arith, ap length c.bids.ensures.value)) c.bids.ensures.proper)
