use Rattle.std.proofs.Common.{◌≡◌, ℕ, ◌<◌, pos, arith, ap, refl, ◌∙◌, length, get_or}
use Rattle.std.proofs.lemmas.Int.{ints}
use Rattle.mix_bids.specs.Bids.{facet_weight}
use Rattle.mix_facets.specs.Points.{prices_at}
use Rattle.mix_facets.specs.Grids.{size_of, point_at}
use Rattle.mix_facets.proofs.least.lowest.Goals as goal
use Rattle.mix_facets.proofs.least.lowest.Goals.{After-first_least}

-- the number of a cell is the facet weight at its point
cell : (c : After-first_least) → (k : ℕ) → k < size_of c.args.grid.now → get_or c.deref.result.now k (pos 0) ≡ facet_weight c.args.list.now.goods c.args.level.now.first c.args.level.now.second c.args.list.now.bids (prices_at c.args.level.now (point_at c.args.grid.now k))
cell c k h = ap (λ z. get_or z k (pos 0)) c.deref.ensures.value ∙ c.in_ok-weights.ensures.weights k (prices_at c.args.level.now (point_at c.args.grid.now k)) h (λ d l. refl)

below : (c : After-first_least) → c.first_least.result.index < size_of c.args.grid.now
below c = omega (arith, c.first_least.ensures.index, ap length c.deref.ensures.value, c.in_ok-weights.ensures.size)

pub returns-clause-weight : goal.returns-clause-weight
returns-clause-weight c = λ x a.
    let k = c.first_least.result.index in
    c.first_least.ensures.weight ∙ ap (λ z. get_or z k (pos 0)) c.deref.ensures.value ∙ c.in_ok-weights.ensures.weights k x (below (goal.at.returns-clause-weight c).After-first_least) a

pub returns-clause-least : goal.returns-clause-least
returns-clause-least c = λ k h.
    let w = (goal.at.returns-clause-least c).After-first_least in
    let e = cell w k h in
    let l = c.first_least.ensures.least k (omega (arith, ap length c.deref.ensures.value, c.in_ok-weights.ensures.size)) in
    omega (arith, ints)

pub returns-clause-first : goal.returns-clause-first
returns-clause-first c = λ k h.
    let w = (goal.at.returns-clause-first c).After-first_least in
    let b = below w in
    let e = cell w k (omega arith) in
    let l = c.first_least.ensures.first k h in
    omega (arith, ints)
