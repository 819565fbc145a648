use Rattle.std.proofs.Common.{◌≡◌, ℕ, ℤ, List, ◌/◌, ◌<◌, ◌^◌, ◌+◌, ◌*◌, suc, All, arith, ap, subst, sym, ◌∙◌, pow-suc}
use Rattle.mix_num.specs.Vectors.{with_null}
use Rattle.mix_canon.specs.Searches.{AgreeBeside, IsFirstBeside, IsFirstRound, IsOwn, prices_of}
use Rattle.mix_canon.proofs.NearPoints.{even_of, own_prices_own, set_of_goods}
use Rattle.mix_canon.proofs.Likenesses.{told_more}
use Rattle.mix_canon.proofs.points.told_round.Goals as goal

pub told_beside-requires-clause-prices : goal.told_beside-requires-clause-prices
told_beside-requires-clause-prices c = subst (λ (p : List ℤ). All IsOwn p) (sym c.own_prices-prices.ensures) (own_prices_own c.args.values.now.items c.requires.values.each)

pub returns : goal.returns
returns c = λ set is.
    let n = c.args.first.now.goods in
    let e = even_of set is.1 in
    let size : c.sets_of-number-end.result ≡ 2 ^ n = c.sets_of-number-end.ensures.value ∙ ap (λ (k : ℕ). 2 ^ k) c.goods-goods.ensures.value in
    let twice = pow-suc 2 n in
    let below = is.0 in
    let more : n + 1 ≡ suc n = omega arith in
    let f = ap (λ (k : ℕ). 2 ^ k) more in
    let l : set / 2 < c.loop-number.number = omega arith in
    subst (AgreeBeside c.args.first.now.bids c.args.second.now.bids (with_null (prices_of c.args.values.now.items))) (sym e) (c.loop-number.invariant (set / 2) l)

pub returns-in-Some : goal.returns-in-Some
returns-in-Some c =
    let n = c.args.first.now.goods in
    let bs = c.args.first.now.bids in
    let cs = c.args.second.now.bids in
    let v = c.args.values.now.items in
    let size : c.sets_of-number-end.result ≡ 2 ^ n = c.sets_of-number-end.ensures.value ∙ ap (λ (k : ℕ). 2 ^ k) c.goods-goods.ensures.value in
    told_more c.args.first.now c.args.second.now (IsFirstBeside n bs cs (with_null c.own_prices-prices.result.items) c.from_bits.result) (IsFirstRound n bs cs v) c.in-Some.told (λ p beside. record {
      set = 2 * c.loop-number.number;
      goods = set_of_goods n c.loop-number.number (omega (arith, c.loop-number-test.true, size));
      before = λ k l is.
          let e = even_of k is.1 in
          subst (AgreeBeside bs cs (with_null (prices_of v))) (sym e) (c.loop-number.invariant (k / 2) (omega arith));
      beside = subst (λ (q : List ℤ). IsFirstBeside n bs cs (with_null q) (2 * c.loop-number.number) p) c.own_prices-prices.ensures (subst (λ (set : ℕ). IsFirstBeside n bs cs (with_null c.own_prices-prices.result.items) set p) c.from_bits.ensures beside);
    }) c.in-Some.ensures
