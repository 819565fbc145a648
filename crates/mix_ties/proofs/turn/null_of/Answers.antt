use Rattle.std.proofs.Common.{◌≡◌, ℕ, suc, ◌-◌, ◌^◌, length, get_or, pos, arith, ap, ◌∙◌}
use Rattle.std.proofs.lemmas.Int.{ints}
use Rattle.mix_num.proofs.Additions.{sum-all_goods}
use Rattle.mix_ties.proofs.turn.null_of.Goals as goal

pub returns-clause-value : goal.returns-clause-value
returns-clause-value c =
    let e : c.sets_of.result ≡ 2 ^ suc (length c.args.left.now.items) = c.sets_of.ensures.value ∙ ap (λ (k : ℕ). 2 ^ suc k) c.len-goods.ensures.value in
    let some = c.sets_of.ensures.some in
    let r = c.requires.later_range (c.sets_of.result - 1) (omega (arith, e, some)) in
    let at = ap (λ (k : ℕ). get_or c.args.later.now (k - 1) (pos 0)) e in
    let near = c.sum_over.ensures.near 0 (omega (arith, ints), omega (arith, ints)) in
    omega (arith, ints, r, at, sum-all_goods c.args.left.now.items c.len-goods.result c.goods.result c.sum_over.result c.len-goods.ensures.value c.goods.ensures c.sum_over.ensures.value, near)

pub returns-clause-range : goal.returns-clause-range
returns-clause-range c =
    let e : c.sets_of.result ≡ 2 ^ suc (length c.args.left.now.items) = c.sets_of.ensures.value ∙ ap (λ (k : ℕ). 2 ^ suc k) c.len-goods.ensures.value in
    let some = c.sets_of.ensures.some in
    let r = c.requires.later_range (c.sets_of.result - 1) (omega (arith, e, some)) in
    let near = c.sum_over.ensures.near 0 (omega (arith, ints), omega (arith, ints)) in
    (omega (arith, ints, r, near), omega (arith, ints, r, near))
