use Rattle.std.proofs.Common.{◌≡◌, ℕ, ◌+◌, ◌*◌, ◌^◌, ◌≤◌, ◌<◌, List, [], ℤ, arith, ap, subst, ◌∙◌, length, get_or}
use Rattle.std.proofs.lemmas.List.{get_or_default}
use Rattle.mix_facets.specs.Grids.{size_of, IsRising}
use Rattle.mix_facets.proofs.Numberings.{numbered_on, number_once}
use Rattle.mix_bids.proofs.Powers.{power_step, power_most}
use Rattle.mix_facets.proofs.Sizes.{size_step, size_end}
use Rattle.mix_facets.proofs.grid.Grid.size.Goals as goal
use Rattle.mix_facets.proofs.grid.Grid.size.Goals.{After-len, After-loop-numbers}

-- a coordinate has at most 401 candidates
few : (c : After-len) → c.len.result ≤ 401
few c =
    let us = c.self.inside.candidates.items in
    let k = c.loop-numbers.numbers-index in
    let l : k < length us = omega (arith, c.loop-numbers-test.true, ap length c.deref-numbers-items.ensures.value) in
    let e : c.numbers-item.result ≡ get_or us k [] = c.numbers-item.is ∙ ap (λ z. get_or z k c.numbers-item.result) c.deref-numbers-items.ensures.value ∙ get_or_default us k c.numbers-item.result [] l in
    omega (arith, c.len.ensures.value, ap length e, (c.self.invariant.1 k l).0)

-- with one more coordinate
more : (c : After-len) → c.loop-numbers.size * c.len.result ≤ 401 ^ (c.loop-numbers.numbers-index + 1)
more c = power_step c.loop-numbers.size c.len.result c.loop-numbers.numbers-index c.loop-numbers.invariant.range (few c)

pub overflow_mul-size : goal.overflow_mul-size
overflow_mul-size c =
    let m = more c in
    let k = power_most (c.loop-numbers.size * c.len.result) (c.loop-numbers.numbers-index + 1) m (omega (arith, c.loop-numbers-test.true, ap length c.deref-numbers-items.ensures.value, c.self.invariant.0)) in
    record { fits = omega arith }

pub loop-numbers-preserved : goal.loop-numbers-preserved
loop-numbers-preserved c = record {
  so_far = size_step c.deref-numbers-items.result.now c.loop-numbers.numbers-index c.numbers-item.result c.loop-numbers.size c.len.result (size_of c.deref-numbers-items.result.now) c.loop-numbers-test.true c.numbers-item.is c.len.ensures.value c.loop-numbers.invariant.so_far;
  range = more (goal.at.loop-numbers-preserved c).After-len;
}

-- the product is the size
size_is : (c : After-loop-numbers) → c.loop-numbers.size ≡ size_of c.args.self.now
size_is c =
    let l = c.loop-numbers-test.false in
    size_end c.deref-numbers-items.result.now c.loop-numbers.numbers-index c.loop-numbers.size (size_of c.deref-numbers-items.result.now) l c.loop-numbers.invariant.so_far
    ∙ ap size_of (c.deref-numbers-items.ensures.value ∙ c.self.view_is)

pub returns-clause-range : goal.returns-clause-range
returns-clause-range c = power_most c.loop-numbers.size c.loop-numbers.numbers-index c.loop-numbers.invariant.range (omega (arith, c.loop-numbers.auto.numbers-index-end, ap length c.deref-numbers-items.ensures.value, c.self.invariant.0))

pub returns-clause-all : goal.returns-clause-all
returns-clause-all c = λ point o.
    let n = numbered_on c.args.self.now point o in
    (n.number, omega (arith, n.below, size_is (goal.at.returns-clause-all c).After-loop-numbers), n.is)

pub returns-clause-once : goal.returns-clause-once
returns-clause-once c = λ k l p q e.
    let s = size_is (goal.at.returns-clause-once c).After-loop-numbers in
    let d = subst (λ (z : List (List ℤ)). (m : ℕ) → m < length z → (length (get_or z m []) ≤ 401) × IsRising (get_or z m [])) c.self.view_is c.self.invariant.1 in
    number_once c.args.self.now k l (λ m h. (d m h).1) (omega arith) (omega arith) e
