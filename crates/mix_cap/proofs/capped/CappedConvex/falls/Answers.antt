use Rattle.std.proofs.Common.{◌≡◌, ◌∙◌, ◌<◌, ◌^◌, ◌+◌, ℕ, ℤ, suc, ap, arith, to_z, of_z, w64, add-one}
use Rattle.std.proofs.lemmas.Int.{ints}
use Rattle.std.proofs.lemmas.Nat.{pow_pos}
use Rattle.mix_num.specs.Vectors.{members, with_null}
use Rattle.mix_law.specs.Members.{fall_of}
use Rattle.mix_cap.specs.Cappeds.{utility_of}
use Rattle.mix_bids.proofs.Tallies.{one_done}
use Rattle.mix_cap.proofs.capped.CappedConvex.falls.Goals as goal

-- the set is one of the choices 0 to n
below : (c : goal.After-at) → c.from_bits-set.result < 2 ^ suc c.args.self.now.list.goods
below c =
    let n = c.args.self.now.list.goods in
    let power : 2 ^ (c.goods.result + 1) ≡ 2 ^ suc n = ap (λ (n : ℕ). 2 ^ n) (add-one c.goods.result ∙ ap suc c.goods.ensures.value) in
    omega (arith, pow_pos (suc n), c.from_bits-set.ensures, c.loop-bits-test.true, c.bits-bits-end.ensures.value, c.whole.ensures)

amount : (c : goal.After-at) → to_z w64 (of_z w64 c.at.result) ≡ fall_of (utility_of c.args.self.now) (with_null c.args.prices.now.items) (members c.from_bits-set.result)
amount c =
    let a = c.at.ensures in
    let f = c.all_falls-falls.ensures.falls c.from_bits-set.result (below c) in
    omega (arith, ints, a.value, a.range.0, a.range.1, f)

pub add-requires : goal.add-requires
add-requires c =
    let range = c.requires.range c.from_bits-set.result (below c) in
    let left = c.loop-bits.invariant.left c.from_bits-set.result (omega (arith, c.from_bits-set.ensures)) in
    let by = amount c in
    (omega (arith, ints, range.0, range.1, left, by), omega (arith, ints, range.0, range.1, left, by))

pub loop-bits-preserved : goal.loop-bits-preserved
loop-bits-preserved c =
    let is = c.from_bits-set.ensures in
    let fall : ℕ → ℤ = λ set. fall_of (utility_of c.args.self.now) (with_null c.args.prices.now.items) (members set) in
    record {
      done = one_done c.args.out.now c.loop-bits.out c.add.new.self fall c.loop-bits.bits c.from_bits-set.result _ is (amount c.before ∙ ap fall is) c.add.ensures.sum c.add.ensures.others c.loop-bits.invariant.done c.loop-bits.invariant.left;
      left = λ t h. c.add.ensures.others t (λ e. let same = e ∙ is in absurd (omega arith)) ∙ c.loop-bits.invariant.left t (omega arith);
    }
