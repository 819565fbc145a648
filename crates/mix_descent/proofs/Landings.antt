-- A long step leaves less room.
use Rattle.std.proofs.Common.{◌≡◌, suc, ◌<◌, Bool, true, false, cond, ℤ, pos, ◌+ℤ◌, ◌≤ℤ◌, arith}
use Rattle.std.proofs.lemmas.Int.{ints}
use Rattle.mix_num.specs.Vectors.{Vector, bit, plus, members, Agree}
use Rattle.mix_law.specs.declared.convex.Convex.{Ghosts}
use Rattle.mix_market.specs.declared.market.Market.{Market}
use Rattle.mix_market.specs.Markets.{goods_of, lyapunov_of}
use Rattle.mix_market.proofs.MarketFacts.{market_keeps}
use Rattle.mix_descent.specs.Trails.{IsLongStep, after}
use Rattle.mix_descent.specs.declared.long_step.LongStep.{LongStep}
use Rattle.mix_step.proofs.Bounds.{rises_low}
use Rattle.mix_step.proofs.Rooms.{room, room-less, room-raised, some_good}
use Rattle.mix_descent.proofs.TrailFacts.{stretch}

pub long_smaller : {D : Type 0} {g : Ghosts D} (market : Market D g) (p q : Vector) (step : LongStep) → p 0 ≡ pos 0 → IsLongStep (goods_of market) (lyapunov_of market) p step → Agree (goods_of market) q (after p step) → room (goods_of market) q < room (goods_of market) p
long_smaller market p q step null long e =
    let n = goods_of market in
    let s = stretch (market_keeps market) p step long in
    let is = s.is in
    let one = s.some in
    let low = rises_low market p (members step.set) null long.minimal in
    let less = room-raised n p (members step.set) low in
    let some = some_good n step.set long.goods long.some in
    let more = room-less n (plus p (members step.set)) q (λ k i. let u = e (suc k) i in let v = further (p (suc k)) step.length (members step.set (suc k)) (omega (arith, ints)) in omega (arith, ints)) in
    omega arith
  where
    further : (a by : ℤ) (b : Bool) → pos 1 ≤ℤ by → (a +ℤ bit b) ≤ℤ (a +ℤ cond b by (pos 0))
    further a by true h = omega (arith, ints)
    further a by false h = omega (arith, ints)
