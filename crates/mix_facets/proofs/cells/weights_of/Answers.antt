use Rattle.std.proofs.Common.{◌≡◌, ℕ, suc, ◌*◌, ◌^◌, ◌<◌, ◌≤◌, ◌++◌, [], List, ℤ, pos, arith, ap, ap₂, sym, subst, ◌∙◌, length, get_or, take, drop, add-one}
use Rattle.std.proofs.lemmas.Int.{ints}
use Rattle.std.proofs.lemmas.List.{get_or_default}
use Rattle.std.proofs.lemmas.List.Elements.{All-filter}
use Rattle.mix_num.specs.Ranges.{Lies}
use Rattle.mix_bids.specs.Bids.{AreBids, IsBid}
use Rattle.mix_bids.proofs.Lengths.{over_of}
use Rattle.mix_facets.specs.Grids.{size_of, IsRising}
use Rattle.mix_bids.specs.Levels.{has_lead}
use Rattle.mix_facets.specs.Levels.{bids_of}
use Rattle.mix_facets.specs.Cells.{holds, leads, weight_held, AreSums}
use Rattle.mix_facets.proofs.CellSums.{held_sums}
use Rattle.mix_facets.proofs.CellTurns.{written_over, weight_lies}
use Rattle.mix_facets.proofs.FirstCells.{few_cells}
use Rattle.mix_facets.proofs.HeldWeights.{held_facet}
use Rattle.mix_facets.proofs.Places.{length-kept}
use Rattle.mix_facets.proofs.GridPoints.{IsPart, grid_some, size_parts, size_more, part_of}
use Rattle.mix_facets.proofs.cells.weights_of.Goals as goal
use Rattle.mix_facets.proofs.cells.weights_of.Goals.{After-bids-bids, After-len, After-loop-numbers}

-- a cell holds little
small : (c : After-bids-bids) (m k : ℕ) → Lies 4000000 (weight_held c.args.level.now.first c.args.level.now.second m c.args.grid.now (bids_of c.args.list.now c.args.level.now) k)
small c m k =
    let level = c.args.level.now in
    let list = c.args.list.now in
    let p = has_lead level.first level.second level.difference in
    let e = c.bids-bids.ensures in
    let are = subst (AreBids list.goods) e.value e.proper in
    let few = length-kept p list.bids in
    let n = ap length e.value in
    let f = e.few in
    let r = weight_lies list.goods (λ b. holds m 0 c.args.grid.now (leads level.first level.second b) k) (bids_of list level) (All-filter p (IsBid list.goods) list.bids are) in
    (omega (arith, ints, r.0), omega (arith, ints, r.1))

pub returns-in_err-cells-clause-some : goal.returns-in_err-cells-clause-some
returns-in_err-cells-clause-some c = grid_some c.args.list.now c.args.level.now c.args.grid.now c.requires.level c.requires.grid

pub returns-clause-some : goal.returns-clause-some
returns-clause-some c = grid_some c.args.list.now c.args.level.now c.args.grid.now c.requires.level c.requires.grid

-- the coordinate is one of the grid, and what is read are its candidates
within : (c : After-len) → c.loop-numbers.numbers-index < length c.args.grid.now
within c = omega (arith, c.loop-numbers-test.true, ap length (c.deref-numbers-items.ensures.value ∙ c.grid.view_is))

count_is : (c : After-len) → c.len.result ≡ length (get_or c.args.grid.now c.loop-numbers.numbers-index [])
count_is c =
    let i = c.loop-numbers.numbers-index in
    let d = c.numbers-item.result in
    c.len.ensures.value ∙ ap length (c.numbers-item.is ∙ ap (λ z. get_or z i d) (c.deref-numbers-items.ensures.value ∙ c.grid.view_is) ∙ get_or_default c.args.grid.now i d [] (within c))

whole : (c : After-len) → size_of c.args.grid.now ≡ size_of (drop (suc c.loop-numbers.numbers-index) c.args.grid.now) * (c.loop-numbers.stride * c.len.result)
whole c =
    let i = c.loop-numbers.numbers-index in
    size_parts i c.args.grid.now (within c) ∙ ap₂ (λ s m. size_of (drop (suc i) c.args.grid.now) * (s * m)) (sym c.loop-numbers.invariant.stride) (sym (count_is c))

part : (c : After-len) → IsPart c.loop-numbers.stride c.len.result (size_of c.args.grid.now)
part c = part_of (size_of (drop (suc c.loop-numbers.numbers-index) c.args.grid.now)) c.loop-numbers.stride c.len.result (size_of c.args.grid.now) (whole c) (grid_some c.args.list.now c.args.level.now c.args.grid.now c.requires.level c.requires.grid)

few : (c : After-len) → c.loop-numbers.stride * c.len.result ≤ 401 ^ 7
few c =
    let h = subst (λ (z : List (List ℤ)). (length z ≤ 7) × ((m : ℕ) → m < length z → (length (get_or z m []) ≤ 401) × IsRising (get_or z m []))) c.grid.view_is c.grid.invariant in
    let f = few_cells 0 c.args.grid.now h.0 (λ m l. (h.1 m l).0) in
    let p = (part c).fits in
    omega arith

pub add_along-requires-clause-stride : goal.add_along-requires-clause-stride
add_along-requires-clause-stride c = (part c).some

pub add_along-requires-clause-whole : goal.add_along-requires-clause-whole
add_along-requires-clause-whole c = (size_of (drop (suc c.loop-numbers.numbers-index) c.args.grid.now), ap length c.deref_mut.ensures.value ∙ c.loop-numbers.invariant.size ∙ whole c)

pub add_along-requires-clause-block : goal.add_along-requires-clause-block
add_along-requires-clause-block c = few c

-- what the cells hold with the coordinate added up are the sums along it
sums : (c : After-len) → AreSums c.loop-numbers.stride c.len.result c.deref_mut.result.now (weight_held c.args.level.now.first c.args.level.now.second (suc c.loop-numbers.numbers-index) c.args.grid.now (bids_of c.args.list.now c.args.level.now))
sums c =
    let i = c.loop-numbers.numbers-index in
    let level = c.args.level.now in
    let grid = c.args.grid.now in
    let bs = bids_of c.args.list.now level in
    let w = weight_held level.first level.second (suc i) grid bs in
    let h = held_sums level.first level.second i grid bs c.loop-numbers.cells.items (within c) c.loop-numbers.invariant.size c.loop-numbers.invariant.held in
    subst (λ (s : ℕ). AreSums s c.len.result c.deref_mut.result.now w) (sym c.loop-numbers.invariant.stride)
    (subst (λ (m : ℕ). AreSums (size_of (take i grid)) m c.deref_mut.result.now w) (sym (count_is c))
    (subst (λ (z : List ℤ). AreSums (size_of (take i grid)) (length (get_or grid i [])) z w) (sym c.deref_mut.ensures.value) h))

pub add_along-requires-clause-sums : goal.add_along-requires-clause-sums
add_along-requires-clause-sums c =
    let i = c.loop-numbers.numbers-index in
    let level = c.args.level.now in
    (weight_held level.first level.second (suc i) c.args.grid.now (bids_of c.args.list.now level), sums c, λ k l. small (goal.at.add_along-requires-clause-sums c).After-bids-bids (suc i) k)

pub overflow_mul-stride : goal.overflow_mul-stride
overflow_mul-stride c =
    let k = (goal.at.overflow_mul-stride c).After-len in
    let f = few k in
    let e = ap (λ z. c.loop-numbers.stride * z) (c.len-stride.ensures.value ∙ sym c.len.ensures.value) in
    record { fits = omega arith }

pub loop-numbers-preserved : goal.loop-numbers-preserved
loop-numbers-preserved c =
    let k = (goal.at.loop-numbers-preserved c).After-len in
    let i = c.loop-numbers.numbers-index in
    let level = c.args.level.now in
    let grid = c.args.grid.now in
    let bs = bids_of c.args.list.now level in
    let old = c.loop-numbers.cells.items in
    let new = c.add_along.new.cells in
    let ok = c.loop-numbers.cells.ok in
    let value = ap length c.deref_mut.ensures.value in
    let size = c.add_along.ensures.size in
    let inv = c.loop-numbers.invariant in
    let back : take c.loop-numbers.cells.len (new ++ drop (length new) old) ≡ new = written_over c.loop-numbers.cells.len new old (omega arith) (omega arith) in
    let same : length new ≡ size_of grid = omega (arith, inv.size) in
    record {
      stride = ap (λ z. c.loop-numbers.stride * z) (c.len-stride.ensures.value ∙ sym c.len.ensures.value) ∙ ap₂ (λ s m. s * m) inv.stride (count_is k) ∙ sym (size_more i grid (within k)) ∙ ap (λ n. size_of (take n grid)) (sym (add-one i));
      size = ap length back ∙ same;
      held = λ m h. ap (λ z. get_or z m (pos 0)) back
          ∙ c.add_along.ensures.sums (weight_held level.first level.second (suc i) grid bs) (sums k) m (omega arith)
          ∙ ap (λ n. weight_held level.first level.second n grid bs m) (sym (add-one i));
    }

-- all coordinates are added up
all : (c : After-loop-numbers) → (k : ℕ) → k < size_of c.args.grid.now → get_or c.loop-numbers.cells.items k (pos 0) ≡ weight_held c.args.level.now.first c.args.level.now.second (length c.args.grid.now) c.args.grid.now (bids_of c.args.list.now c.args.level.now) k
all c k h =
    let level = c.args.level.now in
    let e : c.loop-numbers.numbers-index ≡ length c.args.grid.now = omega (arith, c.loop-numbers-test.false, c.loop-numbers.auto.numbers-index-end, ap length (c.deref-numbers-items.ensures.value ∙ c.grid.view_is)) in
    c.loop-numbers.invariant.held k h ∙ ap (λ n. weight_held level.first level.second n c.args.grid.now (bids_of c.args.list.now level) k) e

pub returns-clause-weights : goal.returns-clause-weights
returns-clause-weights c = λ k x h a.
    let list = c.args.list.now in
    let e = c.bids-bids.ensures in
    all c k h ∙ held_facet list c.args.level.now c.args.grid.now k x (over_of list.goods list.bids (subst (AreBids list.goods) e.value e.proper)) c.requires.level c.requires.grid h a

pub returns-clause-range : goal.returns-clause-range
returns-clause-range c = λ k h. subst (Lies 4000000) (sym (all c k h)) (small (goal.at.returns-clause-range c).After-bids-bids (length c.args.grid.now) k)
