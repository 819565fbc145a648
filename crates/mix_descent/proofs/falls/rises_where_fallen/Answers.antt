use Rattle.std.proofs.Common.{Bool, true, false, int_lt, refl, ◌-ℤ◌, ◌≤ℤ◌, ◌≡◌, ℕ, zero, suc, ◌+◌, ◌-◌, ◌^◌, ◌*◌, ◌<◌, ◌≤◌, ◌<ℤ◌, ℤ, pos, List, get_or, arith, sym, ap, ◌∙◌, subst, ⊎_elim}
use Rattle.std.proofs.lemmas.Int.{ints}
use Rattle.std.proofs.lemmas.Bool.{cases_lt, false≢true}
use Rattle.mix_num.specs.Vectors.{members, minus, with_null}
use Rattle.mix_num.specs.Moves.{IsSetOfGoods}
use Rattle.mix_market.specs.Lowerings.{CanFall}
use Rattle.mix_market.specs.Markets.{goods_of, lyapunov_of, reserves_of}
use Rattle.mix_market.proofs.GoodsSets.{count_goods, even_goods, even_of}
use Rattle.mix_descent.proofs.falls.rises_where_fallen.Goals as goal
use Rattle.mix_descent.proofs.falls.rises_where_fallen.Goals.{else-are_above-via-then-are_above+else-stays_low, else-are_above-via-else-are_above}

-- what isn't at most 0 is above it
rises_from : {number after before : ℤ} → number ≡ after -ℤ before → (number ≤ℤ pos 0 → ⊥) → before <ℤ after
rises_from {number} {after} {before} is high = at (int_lt before after) refl
  where
    at : (b : Bool) → int_lt before after ≡ b → before <ℤ after
    at true e = grind (arith, ints)
    at false e = absurd (high (let low : after ≤ℤ before = grind (arith, ints) in omega (arith, ints)))

pub loop-half-preserved : goal.loop-half-preserved
loop-half-preserved g c = λ s h falls. ⊎_elim
    (λ (q : s < 2 * c.loop-half.half). c.loop-half.invariant s q falls)
    (λ (q : 2 * c.loop-half.half ≤ s).
    let market = c.args.market.now in
    let x = with_null c.args.prices.now.items in
    let reserve : c.reserve-reserve.result.now.items ≡ reserves_of market = c.reserve-reserve.ensures.value ∙ ap (λ seller. seller.reserve.items) c.seller.ensures in
    let even = even_of s falls.goods.1 in
    let set = c.from_bits-set.result in
    let same : s ≡ set = omega (arith, even, h, q, c.from_bits-set.ensures) in
    let here : CanFall (goods_of market) (with_null (reserves_of market)) x set = subst (CanFall (goods_of market) (with_null (reserves_of market)) x) same falls in
    subst (λ (v : ℕ). lyapunov_of market x <ℤ lyapunov_of market (minus x (members v))) (sym same)
    (elim c.else-are_above.branch [
      | else-are_above-via-then-are_above+else-stays_low w ↦
          let down = c.slopes_down.ensures.goods set here.goods in
          rises_from down (λ low. false≢true (sym w.if-stays_low.false ∙ w.stays_low.ensures.1 low))
      | else-are_above-via-else-are_above w ↦
          absurd (false≢true (sym w.if-are_above.false ∙ c.are_above.ensures.1 (λ k l m.
          let high = here.above (suc k) (omega (arith, l, c.requires.0)) m in
          let held = ap (λ (r : List ℤ). get_or r k (pos 0)) reserve in
          omega (arith, ints))))
    ]))
    (cases_lt s (2 * c.loop-half.half))

-- each good of the set is above its reserve
above_goods : (n set : ℕ) (low high : List ℤ) → members set 0 ≡ false → ((k : ℕ) → k < n → members set (suc k) ≡ true → get_or low k (pos 0) <ℤ get_or high k (pos 0))
    → (k : ℕ) → k ≤ n → members set k ≡ true → with_null low k <ℤ with_null high k
above_goods n set low high null above zero l m = absurd (false≢true (sym null ∙ m))
above_goods n set low high null above (suc k) l m = above k (omega (arith, l)) m

pub returns-then-stays_low : goal.returns-then-stays_low
returns-then-stays_low g c =
    let market = c.args.market.now in
    let n = goods_of market in
    let set = c.from_bits-set.result in
    let reserve : c.reserve-reserve.result.now.items ≡ reserves_of market = c.reserve-reserve.ensures.value ∙ ap (λ seller. seller.reserve.items) c.seller.ensures in
    let last = c.bits.ensures.value ∙ c.goods.ensures ∙ ap (λ (k : ℕ). 2 ^ (k + 1) - 2) (c.len.ensures.value ∙ c.requires.0) in
    let count = count_goods n in
    let half : c.loop-half.half < 2 ^ n = omega (arith, c.loop-half-test.true, last, count) in
    let goods : IsSetOfGoods n set = subst (IsSetOfGoods n) (sym c.from_bits-set.ensures) (even_goods n c.loop-half.half half) in
    let can : CanFall n (with_null (reserves_of market)) (with_null c.args.prices.now.items) set = record {
      goods = goods;
      some = omega (arith, c.from_bits-set.ensures, c.loop-half.auto.half);
      above = above_goods n set _ _ goods.1 (λ k l m.
          let high = c.are_above.ensures.0 c.if-are_above.true k (omega (arith, l, c.requires.0)) m in
          let held = ap (λ (r : List ℤ). get_or r k (pos 0)) reserve in
          omega (arith, ints));
    } in
    let down = c.slopes_down.ensures.goods set goods in
    let low = c.stays_low.ensures.0 c.if-stays_low.true in (
      λ wrong. absurd (false≢true wrong),
      λ rises. let up = rises set can in absurd (omega (arith, ints)),
    )
