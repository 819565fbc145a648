use Rattle.std.proofs.Common.{◌≡◌, ℕ, arith, ap, ap₂, subst, ◌∙◌, ◌++◌, ◌∷◌, [], List, ℤ, length, length-append}
use Rattle.mix_bids.specs.Bids.{AreBids}
use Rattle.mix_bids.proofs.Lengths.{over_of}
use Rattle.mix_bids.specs.Levels.{other}
use Rattle.mix_facets.specs.Grids.{AreCandidates, IsGridOf}
use Rattle.mix_facets.proofs.Steps.{entries_step}
use Rattle.mix_facets.proofs.Leasts.{some_less, grid_points}
use Rattle.mix_facets.proofs.grid.grid_of.Goals as goal
use Rattle.mix_facets.proofs.grid.grid_of.Goals.{After-loop-coordinate}

pub loop-coordinate-preserved : goal.loop-coordinate-preserved
loop-coordinate-preserved c =
    let xs = c.loop-coordinate.candidates.items in
    let us = c.in_ok-candidates_of.field-0 in
    let i = c.loop-coordinate.invariant in
    let v = c.level.view_is in
    let l = c.args.level.now in
    let e : c.push.new.self.items ≡ xs ++ us ∷ [] = c.in_ok-push.ensures.items in
    let p = λ (k : ℕ) (z : List ℤ). AreCandidates c.args.list.now l (other l.first l.second k) z in
    let f = c.other-choice.ensures.value ∙ ap₂ (λ a b. other a b c.loop-coordinate.coordinate) (ap (λ z. z.first) v) (ap (λ z. z.second) v) in
    record {
      size = omega (arith, ap length e, length-append xs (us ∷ []), i.size);
      each = entries_step p xs c.push.new.self.items us c.loop-coordinate.coordinate i.size i.each e (subst (λ (k : ℕ). AreCandidates c.args.list.now l k us) f c.in_ok-candidates_of.ensures);
    }

-- the candidates of all coordinates
grid_is : (c : After-loop-coordinate) → IsGridOf c.args.list.now c.args.level.now c.loop-coordinate.candidates.items
grid_is c =
    let i = c.loop-coordinate.invariant in
    let g = ap (λ z. z.goods) c.level.view_is in
    let v = c.level.invariant in
    record {
      size = omega (arith, i.size, c.loop-coordinate-test.false, c.loop-coordinate.auto.coordinate-end, v.0, v.1);
      each = λ k l. i.each k (omega (arith, i.size));
    }

pub returns-clause-points : goal.returns-clause-points
returns-clause-points c = λ point o.
    let g = ap (λ z. z.goods) c.level.view_is in
    let i = ap (λ z. z.first) c.level.view_is in
    let j = ap (λ z. z.second) c.level.view_is in
    let v = c.level.invariant in
    grid_points c.args.list.now c.args.level.now c.loop-coordinate.candidates.items point (omega (arith, v.0)) (omega (arith, v.1)) (grid_is (goal.at.returns-clause-points c).After-loop-coordinate) o

pub returns-clause-least : goal.returns-clause-least
returns-clause-least c = λ x e h.
    let s = some_less c.args.list.now c.args.level.now c.loop-coordinate.candidates.items x (over_of c.args.list.now.goods c.args.list.now.bids (subst (AreBids c.args.list.now.goods) c.bids-bids.ensures.value c.bids-bids.ensures.proper)) c.requires (grid_is (goal.at.returns-clause-least c).After-loop-coordinate) e h in
    (s.number, s.below, s.less)
