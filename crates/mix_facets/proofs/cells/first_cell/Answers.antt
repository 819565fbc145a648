use Rattle.std.proofs.Common.{◌≡◌, ℕ, ◌-◌, ◌*◌, ◌+◌, ◌^◌, ◌<◌, ◌≤◌, [], List, ℤ, arith, ap, sym, subst, ◌∙◌, length, get_or, drop}
use Rattle.std.proofs.lemmas.List.{get_or_default}
use Rattle.mix_facets.specs.Cells.{leads}
use Rattle.mix_facets.specs.Grids.{IsRising}
use Rattle.mix_facets.proofs.FirstCells.{IsFirstCell, cell_end, cell_step, none_held, few_cells}
use Rattle.mix_facets.proofs.cells.first_cell.Goals as goal
use Rattle.mix_facets.proofs.cells.first_cell.Goals.{After-len, After-len-in-loop-coordinate}

-- the coordinate is one of the grid
within : (c : After-len) → c.loop-coordinate.coordinate - 1 < length c.args.grid.now
within c = omega (arith, c.loop-coordinate.invariant.within, c.loop-coordinate-test.true)

-- what is read are its candidates
numbers_are : (c : After-len) → c.index-numbers.result.now ≡ get_or c.args.grid.now (c.loop-coordinate.coordinate - 1) []
numbers_are c =
    let n = c.loop-coordinate.coordinate - 1 in
    let d = c.index-numbers.result.now in
    c.index-numbers.ensures ∙ ap (λ z. get_or z n d) c.grid.view_is ∙ get_or_default c.args.grid.now n d [] (within c)

pub loop-coordinate-init : goal.loop-coordinate-init
loop-coordinate-init c =
    let e = ap length c.grid.view_is in
    let s = c.len-coordinate.ensures in
    let o = c.grid.inside.candidates.ok in
    record {
      within = omega arith;
      cell = cell_end c.len-coordinate.result c.args.grid.now (leads c.args.level.now.first c.args.level.now.second c.args.bid.now) (omega arith);
    }

pub returns-then-place-len : goal.returns-then-place-len
returns-then-place-len c =
    let k = (goal.at.returns-then-place-len c).After-len in
    none_held (c.loop-coordinate.coordinate - 1) c.index-numbers.result.now c.args.grid.now (leads c.args.level.now.first c.args.level.now.second c.args.bid.now) (within k) (numbers_are k)
    (sym c.first_place-place.ensures.value ∙ c.if-place-len.true ∙ c.len.ensures.value)

-- with one coordinate more
next : (c : After-len-in-loop-coordinate) → IsFirstCell (c.loop-coordinate.coordinate - 1) (drop (c.loop-coordinate.coordinate - 1) c.args.grid.now) (leads c.args.level.now.first c.args.level.now.second c.args.bid.now) (c.loop-coordinate.cell * c.len-in-loop-coordinate.result + c.first_place-place.result)
next c =
    let k = (goal.at.overflow_mul-cell c).After-len in
    let us = c.index-numbers.result.now in
    let l = leads c.args.level.now.first c.args.level.now.second c.args.bid.now in
    let n = c.len-in-loop-coordinate.ensures.value in
    let p = c.first_place-place.ensures in
    let cell = c.loop-coordinate.cell in
    let m = c.len.ensures.value in
    subst (λ (z : ℕ). IsFirstCell (c.loop-coordinate.coordinate - 1) (drop (c.loop-coordinate.coordinate - 1) c.args.grid.now) l (cell * z + c.first_place-place.result)) (sym n)
    (cell_step (c.loop-coordinate.coordinate - 1) c.loop-coordinate.coordinate us c.args.grid.now l c.first_place-place.result cell (omega (arith, c.loop-coordinate-test.true)) (within k) (numbers_are k) p.value (omega (arith, c.if-place-len.false)) c.loop-coordinate.invariant.cell)

-- it is a cell of few
small : (c : After-len-in-loop-coordinate) → c.loop-coordinate.cell * c.len-in-loop-coordinate.result + c.first_place-place.result < 401 ^ 7
small c =
    let g = c.grid.view_is in
    let h = subst (λ (z : List (List ℤ)). (length z ≤ 7) × ((m : ℕ) → m < length z → (length (get_or z m []) ≤ 401) × IsRising (get_or z m []))) g c.grid.invariant in
    let f = few_cells (c.loop-coordinate.coordinate - 1) c.args.grid.now h.0 (λ m l. (h.1 m l).0) in
    let b = (next c).below in
    omega arith

pub overflow_mul-cell : goal.overflow_mul-cell
overflow_mul-cell c = let s = small c in record { fits = omega arith }

pub overflow_add-cell : goal.overflow_add-cell
overflow_add-cell c = let s = small c in record { fits = omega arith }

pub loop-coordinate-preserved : goal.loop-coordinate-preserved
loop-coordinate-preserved c = record {
  within = omega (arith, c.loop-coordinate.invariant.within);
  cell = next c;
}
