use Rattle.std.proofs.Common.{◌≡◌, ℕ, suc, ◌<◌, true, ℤ, ◌<ℤ◌, ◌≤ℤ◌, to_z, of_z, w64, arith, subst}
use Rattle.std.proofs.lemmas.Int.{ints}
use Rattle.mix_num.specs.Vectors.{members, with_null, Agree}
use Rattle.mix_num.specs.Moves.{lowered}
use Rattle.mix_market.specs.Lyapunov.{IsBelow}
use Rattle.mix_market.specs.Markets.{goods_of, lyapunov_of}
use Rattle.mix_market.proofs.MarketFacts.{market_keeps}
use Rattle.mix_step.proofs.LongRises.{IsLinear}
use Rattle.mix_fall.specs.LongFalls.{IsLongFall}
use Rattle.mix_fall.proofs.LongFalls.{even_fall, fallen_above, fallen_room}
use Rattle.mix_fall.proofs.settling.falls_evenly.Goals as goal

pub reach-requires-clause-prices : goal.reach-requires-clause-prices
reach-requires-clause-prices g c =
    let steps = to_z w64 (of_z w64 c.args.steps) in
    let same : steps ≡ c.args.steps = omega (arith, ints) in
    fallen_room _ c.args.prices.now.items c.lower-fallen.result.items (members c.args.set) steps c.requires.prices c.lower-fallen.ensures.goods (omega (arith, ints)) (omega (arith, ints)) c.lower-fallen.ensures.prices

pub returns-then-are_above : goal.returns-then-are_above
returns-then-are_above g c = λ e.
    let market = c.args.market.now in
    let n = goods_of market in
    let floor = with_null c.args.floor.now.items in
    let p = with_null c.args.prices.now.items in
    let q = with_null c.lower-fallen.result.items in
    let s = members c.args.set in
    let steps = to_z w64 (of_z w64 c.args.steps) in
    let same : steps ≡ c.args.steps = omega (arith, ints) in
    let far : steps ≤ℤ c.reach.result = grind (arith, ints) in
    let agree = subst (λ (m : ℕ). Agree m q (lowered p s steps)) c.requires.prices.0 c.lower-fallen.ensures.prices in
    let size = c.lower-fallen.ensures.goods in
    let count = c.requires.prices.0 in
    let high : (k : ℕ) → k < n → s (suc k) ≡ true → floor (suc k) <ℤ q (suc k) = λ k h i. c.are_above.ensures.0 c.if-are_above.true k (omega arith) i in
    let above : IsBelow n floor (lowered p s steps) = fallen_above n floor p q s steps c.requires.goods.1 c.requires.above agree high in
    let linear : IsLinear (lyapunov_of market) q s steps = λ m h. c.reach.ensures.linear m (omega (arith, ints)) in
    let long = even_fall (market_keeps market) floor p q s steps (omega (arith, ints)) above agree linear in
    subst (λ (z : ℤ). IsLongFall n (lyapunov_of market) floor p s z) same long
