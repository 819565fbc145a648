use Rattle.std.proofs.Common.{◌≡◌, ◌∙◌, ◌<◌, ◌^◌, ◌+◌, ℕ, ℤ, suc, ◌-ℤ◌, ap, arith, subst, to_z, of_z, w64, add-one}
use Rattle.std.proofs.lemmas.Int.{ints}
use Rattle.std.proofs.lemmas.Nat.{pow_pos}
use Rattle.mix_num.specs.Vectors.{members, with_null}
use Rattle.mix_law.specs.Members.{keeps_local, rho}
use Rattle.mix_law.proofs.Outside.{rho-rest}
use Rattle.mix_bids.proofs.Tallies.{one_done}
use Rattle.mix_cap.specs.Cappeds.{units_cap, utility_of}
use Rattle.mix_cap.specs.Laws.{capped_l_natural}
use Rattle.mix_cap.proofs.capped.CappedConvex.gains.Goals as goal

amount : (c : goal.After-at) → to_z w64 (of_z w64 (to_z w64 (of_z w64 c.served-served.result) -ℤ to_z w64 (of_z w64 c.at.result))) ≡ rho (utility_of c.args.self.now) (with_null c.args.prices.now.items) (members c.from_bits-set.result)
amount c =
    let s = c.args.self.now in
    let laws = capped_l_natural s.list.goods (units_cap s) s.list.bids s.proper s.positive in
    let within = subst (λ (n : ℕ). c.outside.result < 2 ^ suc n) c.goods-goods.ensures.value c.outside.ensures.within in
    let rest = rho-rest (keeps_local laws) (with_null c.args.prices.now.items) (members c.from_bits-set.result) (members c.outside.result) (λ k l. let e = c.goods-goods.ensures.value in c.outside.ensures.members k (omega arith)) in
    let a = c.at.ensures in
    let f = c.all_falls-falls.ensures.falls c.outside.result within in
    let m = c.served-served.ensures in
    omega (arith, ints, rest, a.value, a.range.0, a.range.1, f, m.value, m.range.0, m.range.1)

pub add-requires : goal.add-requires
add-requires c =
    let n = c.args.self.now.list.goods in
    let power : 2 ^ (c.goods-goods.result + 1) ≡ 2 ^ suc n = ap (λ (n : ℕ). 2 ^ n) (add-one c.goods-goods.result ∙ ap suc c.goods-goods.ensures.value) in
    let below : c.from_bits-set.result < 2 ^ suc n = omega (arith, pow_pos (suc n), c.from_bits-set.ensures, c.loop-bits-test.true, c.bits-bits-end.ensures.value, c.whole.ensures) in
    let range = c.requires.range c.from_bits-set.result below in
    let left = c.loop-bits.invariant.left c.from_bits-set.result (omega (arith, c.from_bits-set.ensures)) in
    let by = amount c in
    (omega (arith, ints, range.0, range.1, left, by), omega (arith, ints, range.0, range.1, left, by))

pub loop-bits-preserved : goal.loop-bits-preserved
loop-bits-preserved c =
    let is = c.from_bits-set.ensures in
    let rise : ℕ → ℤ = λ set. rho (utility_of c.args.self.now) (with_null c.args.prices.now.items) (members set) in
    record {
      done = one_done c.args.out.now c.loop-bits.out c.add.new.self rise c.loop-bits.bits c.from_bits-set.result _ is (amount c.before ∙ ap rise is) c.add.ensures.sum c.add.ensures.others c.loop-bits.invariant.done c.loop-bits.invariant.left;
      left = λ t h. c.add.ensures.others t (λ e. let same = e ∙ is in absurd (omega arith)) ∙ c.loop-bits.invariant.left t (omega arith);
    }
