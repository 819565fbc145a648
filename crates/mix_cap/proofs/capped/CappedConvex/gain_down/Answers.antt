use Rattle.std.proofs.Common.{◌<◌, ◌^◌, suc, arith, subst, ℕ}
use Rattle.std.proofs.lemmas.Int.{ints}
use Rattle.mix_num.specs.Vectors.{members, with_null}
use Rattle.mix_law.specs.Members.{keeps_local}
use Rattle.mix_law.proofs.Outside.{rho-rest}
use Rattle.mix_law.proofs.Ranges.{rho_range}
use Rattle.mix_cap.specs.Cappeds.{units_cap}
use Rattle.mix_cap.specs.Laws.{capped_l_natural}
use Rattle.mix_cap.proofs.capped.CappedConvex.gain_down.Goals as goal

pub returns-clause-value : goal.returns-clause-value
returns-clause-value c =
    let s = c.args.self.now in
    let laws = capped_l_natural s.list.goods (units_cap s) s.list.bids s.proper s.positive in
    let within = subst (λ (n : ℕ). c.outside.result < 2 ^ suc n) c.goods.ensures.value c.outside.ensures.within in
    let rest = rho-rest (keeps_local laws) (with_null c.args.prices.now.items) (members c.args.set) (members c.outside.result) (λ k l. let e = c.goods.ensures.value in c.outside.ensures.members k (omega arith)) in
    let a = c.at.ensures.range in
    let v = c.at.ensures.value in
    let f = c.all_falls.ensures.falls c.outside.result within in
    let m = c.served.ensures in
    omega (arith, ints, rest, a.0, a.1, v, f, m.value, m.range.0, m.range.1)

pub returns-clause-range : goal.returns-clause-range
returns-clause-range c =
    let s = c.args.self.now in
    let laws = capped_l_natural s.list.goods (units_cap s) s.list.bids s.proper s.positive in
    let r = rho_range s.some_goods laws (with_null c.args.prices.now.items) (members c.args.set) in
    let e = returns-clause-value c in
    (omega (arith, ints, r.0, r.1, e), omega (arith, ints, r.0, r.1, e))
