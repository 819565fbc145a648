use Rattle.std.proofs.Common.{◌≡◌, ◌∙◌, ℕ, ℤ, suc, ◌^◌, ◌<◌, ◌+◌, ◌-ℤ◌, not, arith, ap, subst, to_z, of_z, w64, add-one}
use Rattle.std.proofs.lemmas.Int.{ints}
use Rattle.std.proofs.lemmas.Nat.{pow_pos}
use Rattle.mix_num.specs.Vectors.{members, minus, with_null}
use Rattle.mix_bids.specs.Bids.{utility}
use Rattle.mix_bids.proofs.Tallies.{one_done}
use Rattle.mix_bids.proofs.list.BidList.gains.Goals as goal

amount : (c : goal.After-at) → to_z w64 (of_z w64 (to_z w64 (of_z w64 c.total-total.result) -ℤ to_z w64 (of_z w64 c.at.result))) ≡ utility c.args.self.now.bids (minus (with_null c.args.prices.now.items) (members c.from_bits-set.result)) -ℤ utility c.args.self.now.bids (with_null c.args.prices.now.items)
amount c =
    let there = c.goods-in-loop-bits.ensures.value in
    let set = c.from_bits-set.result in
    let rest = c.outside.result in
    let gain = c.weights_within-within.ensures.gains set rest (subst (λ (n : ℕ). rest < 2 ^ suc n) there c.outside.ensures.within)
    (subst (λ (n : ℕ). (k : ℕ) → k < suc n → members rest k ≡ not (members set k)) there c.outside.ensures.members) in
    let at = c.at.ensures in
    let total = c.total-total.ensures in
    omega (arith, ints, gain, at.value, at.range.0, at.range.1, total.value, total.range.0, total.range.1)

pub add-requires : goal.add-requires
add-requires c =
    let set = c.from_bits-set.result in
    let power : 2 ^ (c.goods.result + 1) ≡ 2 ^ suc c.args.self.now.goods = ap (λ (n : ℕ). 2 ^ n) (add-one c.goods.result ∙ ap suc c.goods.ensures.value) in
    let below : set < 2 ^ suc c.args.self.now.goods = omega (arith, pow_pos (suc c.args.self.now.goods), c.from_bits-set.ensures, c.loop-bits-test.true, c.bits-bits-end.ensures.value, c.whole.ensures) in
    let range = c.requires.range set below in
    let left = c.loop-bits.invariant.left set (omega (arith, c.from_bits-set.ensures)) in
    let by = amount c in
    (omega (arith, ints, range.0, range.1, left, by), omega (arith, ints, range.0, range.1, left, by))

pub loop-bits-preserved : goal.loop-bits-preserved
loop-bits-preserved c =
    let x = with_null c.args.prices.now.items in
    let bs = c.args.self.now.bids in
    let is = c.from_bits-set.ensures in
    let rise : ℕ → ℤ = λ set. utility bs (minus x (members set)) -ℤ utility bs x in
    record {
      done = one_done c.args.out.now c.loop-bits.out c.add.new.self rise c.loop-bits.bits c.from_bits-set.result _ is (amount c.before ∙ ap rise is) c.add.ensures.sum c.add.ensures.others c.loop-bits.invariant.done c.loop-bits.invariant.left;
      left = λ t h. c.add.ensures.others t (λ e. let same = e ∙ is in absurd (omega arith)) ∙ c.loop-bits.invariant.left t (omega arith);
    }
