use Rattle.std.proofs.Common.{◌≡◌, ◌∙◌, ◌<◌, ◌^◌, suc, arith, subst, ℕ, to_z, of_z, w64}
use Rattle.std.proofs.lemmas.Int.{ints}
use Rattle.mix_num.specs.Vectors.{members, with_null}
use Rattle.mix_law.specs.Members.{keeps_local}
use Rattle.mix_law.proofs.Outside.{fall-same}
use Rattle.mix_law.proofs.Ranges.{fall_range}
use Rattle.mix_cap.specs.Cappeds.{units_cap}
use Rattle.mix_cap.specs.Laws.{capped_l_natural}
use Rattle.mix_cap.proofs.capped.CappedConvex.fall.Goals as goal

pub returns-clause-value : goal.returns-clause-value
returns-clause-value c =
    let s = c.args.self.now in
    let laws = capped_l_natural s.list.goods (units_cap s) s.list.bids s.proper s.positive in
    let within = subst (λ (n : ℕ). c.inside.result < 2 ^ suc n) c.goods.ensures.value c.inside.ensures.within in
    let same = fall-same (keeps_local laws) (with_null c.args.prices.now.items) (members c.inside.result) (members c.args.set) (λ k l. let e = c.goods.ensures.value in c.inside.ensures.members k (omega arith)) in
    let a = c.at.ensures.range in
    let t : to_z w64 (of_z w64 c.at.result) ≡ c.at.result = omega (arith, ints, a.0, a.1) in
    t ∙ c.at.ensures.value ∙ c.all_falls.ensures.falls c.inside.result within ∙ same

pub returns-clause-range : goal.returns-clause-range
returns-clause-range c =
    let s = c.args.self.now in
    let laws = capped_l_natural s.list.goods (units_cap s) s.list.bids s.proper s.positive in
    let r = fall_range s.some_goods laws (with_null c.args.prices.now.items) (members c.args.set) in
    let e = returns-clause-value c in
    (omega (arith, ints, r.0, r.1, e), omega (arith, ints, r.0, r.1, e))
