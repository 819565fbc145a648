use Rattle.std.proofs.Common.{◌≡◌, ◌<◌, List, length, get_or, ℤ, pos, ◌+ℤ◌, ap, below_more, arith, w64, to_z, of_z}
use Rattle.std.proofs.lemmas.Int.{ints}
use Rattle.mix_text.specs.AuctionTexts.{auction_text}
use Rattle.mix_check.specs.Reasons.{sum_of_good}
use Rattle.mix_check.proofs.FirstReasons.{sum_first}
use Rattle.mix_check.proofs.amounts.add_up.Goals as goal

pub returns-then-sum-deref-clause-reason : goal.returns-then-sum-deref-clause-reason
returns-then-sum-deref-clause-reason c =
    let lt : c.loop-good.good < length c.args.answer.now.returns.items = omega arith in
    let size = c.requires.shape.returns.0 in
    let back = c.requires.shape.returns.1 c.loop-good.good (pos 0) lt in
    let supplied = c.args.auction.now.sound.supply in
    let few = supplied.0 in
    let all = supplied.1 c.loop-good.good (pos 0) (omega (arith, lt, size, few)) in
    let read = ap (λ (y : List ℤ). get_or y c.loop-good.good (pos 0)) c.deref.ensures.0 in
    let stock = ap (λ (y : List ℤ). get_or y c.loop-good.good (pos 0)) c.deref-in-loop-good.ensures.0 in
    let v = c.given.ensures.value in
    let r = c.given.ensures.range in
    let is : to_z w64 (of_z w64 (to_z w64 (of_z w64 c.given.result) +ℤ to_z w64 (of_z w64 (get_or c.deref.result.now c.loop-good.good (pos 0))))) ≡ sum_of_good c.args.answer.now c.loop-good.good =
    omega (arith, ints, v, r, read, back) in
    let not = c.if-sum-deref.true in
    sum_first (auction_text c.args.auction.now) c.args.answer.now c.loop-good.good _ c.requires.before (omega (arith, lt, size)) is (λ e. omega (arith, ints, e, not, stock, all, v, r, read, back)) c.loop-good.invariant

pub loop-good-preserved : goal.loop-good-preserved
loop-good-preserved c =
    let lt : c.loop-good.good < length c.args.answer.now.returns.items = omega arith in
    let size = c.requires.shape.returns.0 in
    let back = c.requires.shape.returns.1 c.loop-good.good (pos 0) lt in
    let supplied = c.args.auction.now.sound.supply in
    let few = supplied.0 in
    let all = supplied.1 c.loop-good.good (pos 0) (omega (arith, lt, size, few)) in
    let read = ap (λ (y : List ℤ). get_or y c.loop-good.good (pos 0)) c.deref.ensures.0 in
    let stock = ap (λ (y : List ℤ). get_or y c.loop-good.good (pos 0)) c.deref-in-loop-good.ensures.0 in
    let v = c.given.ensures.value in
    let r = c.given.ensures.range in
    let same = ap (to_z w64) c.if-sum-deref.false in
    below_more _ _ c.loop-good.invariant (let e : sum_of_good c.args.answer.now c.loop-good.good ≡ get_or c.args.auction.now.supply.items c.loop-good.good (pos 0) = omega (arith, ints, v, r, read, back, stock, all, same) in e)
