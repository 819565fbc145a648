use Rattle.std.proofs.Common.{◌≡◌, ℕ, suc, ◌*◌, ◌^◌, ◌≤◌, ◌<◌, length, arith, sym, ap, ◌∙◌, subst, ⊎_elim}
use Rattle.std.proofs.lemmas.Int.{ints}
use Rattle.std.proofs.lemmas.Bool.{cases_lt, false≢true}
use Rattle.mix_num.specs.Vectors.{with_null}
use Rattle.mix_market.specs.Lyapunov.{lyapunov}
use Rattle.mix_market.specs.Lowerings.{CanFall}
use Rattle.mix_text.specs.AuctionTexts.{auction_text}
use Rattle.mix_answer.specs.Utilities.{utilities_of}
use Rattle.mix_check.specs.Reasons.{FallsFreely}
use Rattle.mix_check.proofs.FreeFalls.{above-choices, even-set, falls_freely, rises, set-of_goods}
use Rattle.mix_check.proofs.FirstReasons.{fall_first}
use Rattle.mix_check.proofs.falls.none_lower.Goals as goal
use Rattle.mix_check.proofs.falls.none_lower.Goals.{else-are_above-via-then-are_above+else-at-sum_over, else-are_above-via-else-are_above}

pub returns-then-at-sum_over-clause-reason : goal.returns-then-at-sum_over-clause-reason
returns-then-at-sum_over-clause-reason c =
    let set : ℕ = c.from_bits-set.result in
    let size = c.requires.shape.prices.0 in
    let len = c.len.ensures.value in
    let sets = c.sets_of-goods-end.ensures.value ∙ ap (λ (m : ℕ). 2 ^ m) (len ∙ size) in
    let goods = set-of_goods (length c.args.auction.now.goods) c.loop-goods.goods set c.from_bits-set.ensures (omega (arith, sets)) in
    let even = c.from_bits-set.ensures in
    let can : CanFall (length c.args.auction.now.goods) (with_null c.args.auction.now.reserve.items) (with_null c.args.answer.now.prices.items) set = record {
      goods = goods;
      some = omega (arith, even);
      above = above-choices (length c.args.auction.now.goods) set c.args.auction.now.reserve.items c.args.answer.now.prices.items goods.1
          (λ k h m. c.are_above.ensures.0 c.if-are_above.true k (omega (arith, h, size)) m);
    } in
    let a = c.at.ensures in
    let s = c.sum_over.ensures in
    let low = c.if-at-sum_over.true in
    fall_first (auction_text c.args.auction.now) c.args.answer.now set c.requires.before
    (falls_freely (auction_text c.args.auction.now) c.args.answer.now.prices.items c.args.tables.now c.requires.tables set goods can (omega (arith, ints, a.value, a.range, s.value, s.range, low)))
    (λ s h. c.loop-goods.invariant s (omega (arith, h, even)))

pub loop-goods-preserved : goal.loop-goods-preserved
loop-goods-preserved c = λ s h falls. ⊎_elim
    (λ (q : s < 2 * c.loop-goods.goods). c.loop-goods.invariant s q falls)
    (λ (q : 2 * c.loop-goods.goods ≤ s).
    let same : s ≡ c.from_bits-set.result = even-set s falls.can_fall.goods.1 c.loop-goods.goods q h ∙ sym c.from_bits-set.ensures in
    let here = subst (λ (v : ℕ). FallsFreely (length c.args.auction.now.goods) (lyapunov (utilities_of (auction_text c.args.auction.now)) c.args.auction.now.supply.items) (with_null c.args.auction.now.reserve.items) (with_null c.args.answer.now.prices.items) v) same falls in
    let size = c.requires.shape.prices.0 in
    elim c.else-are_above.branch [
      | else-are_above-via-then-are_above+else-at-sum_over w ↦
          let a = w.at.ensures in
          let t = w.sum_over.ensures in
          let high = w.if-at-sum_over.false in
          rises (auction_text c.args.auction.now) c.args.answer.now.prices.items c.args.tables.now c.requires.tables c.from_bits-set.result here.can_fall.goods (omega (arith, ints, a.value, a.range, t.value, t.range, high)) here
      | else-are_above-via-else-are_above w ↦
          absurd (false≢true (sym w.if-are_above.false ∙ c.are_above.ensures.1 (λ k l m. here.can_fall.above (suc k) (omega (arith, l, size)) m)))
    ])
    (cases_lt s (2 * c.loop-goods.goods))
