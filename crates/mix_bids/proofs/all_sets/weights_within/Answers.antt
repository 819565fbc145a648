use Rattle.std.proofs.Common.{◌∙◌, ℕ, ◌<◌, ◌^◌, suc, arith, subst, sym}
use Rattle.std.proofs.lemmas.Int.{ints}
use Rattle.mix_num.specs.Vectors.{members, with_null}
use Rattle.mix_bids.proofs.Lengths.{AreOver, over_of}
use Rattle.mix_bids.specs.Bids.{AreBids}
use Rattle.mix_bids.proofs.Tallies.{meeting_is, subset_within}
use Rattle.mix_bids.proofs.Weights.{utility_falls, utility_rises}
use Rattle.mix_bids.proofs.all_sets.weights_within.Goals as goal

over : (c : goal.After-subset_sums) → AreOver c.args.list.now.goods c.args.list.now.bids
over c = over_of c.args.list.now.goods c.args.list.now.bids (subst (AreBids c.args.list.now.goods) c.bids-bids.ensures.value c.bids-bids.ensures.proper)

pub returns-clause-weights : goal.returns-clause-weights
returns-clause-weights c = λ set h.
    let n = c.args.list.now.goods in
    let bs = c.args.list.now.bids in
    let w = c.best_weights in
    let g = c.goods.ensures in
    c.subset_sums.ensures.sums set (subst (λ (m : ℕ). set < 2 ^ suc m) (sym g.value) h)
    ∙ subset_within n set bs (with_null c.args.prices.now.items) w.new.out (omega (arith, g.value, g.range.1)) (over c) w.ensures.weights

pub returns-clause-falls : goal.returns-clause-falls
returns-clause-falls c = λ set h.
    let n = c.args.list.now.goods in
    let bs = c.args.list.now.bids in
    let e = returns-clause-weights c set h in
    let f = utility_falls n bs (with_null c.args.prices.now.items) (members set) (over c) in
    omega (arith, ints, e, f)

pub returns-clause-gains : goal.returns-clause-gains
returns-clause-gains c = λ set rest h outside.
    let n = c.args.list.now.goods in
    let bs = c.args.list.now.bids in
    let x = with_null c.args.prices.now.items in
    let e = returns-clause-weights c rest h in
    let f = utility_rises n bs x (members set) (over c) in
    let g = meeting_is n (members set) rest bs x outside in
    omega (arith, ints, e, f, g)
