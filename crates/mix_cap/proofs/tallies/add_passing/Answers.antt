use Rattle.std.proofs.Common.{◌≡◌, ◌∙◌, ◌+◌, ◌<◌, ◌^◌, ℕ, ℤ, suc, pos, ◌-ℤ◌, ap, arith, to_z, of_z, w64, add-one}
use Rattle.std.proofs.lemmas.Int.{ints, clamps}
use Rattle.std.proofs.lemmas.Nat.{pow_pos}
use Rattle.std.specs.Int.{int_max}
use Rattle.mix_num.specs.Tables.{number_of}
use Rattle.mix_bids.proofs.Tallies.{one_done}
use Rattle.mix_cap.proofs.tallies.add_passing.Goals as goal

amount : (c : goal.After-max) → to_z w64 (of_z w64 c.max.result) ≡ int_max (pos 0) (number_of c.args.level.now c.from_bits-set.result -ℤ to_z w64 (of_z w64 c.args.spare))
amount c =
    let at = c.at.ensures in
    let s = c.requires.spare in
    let m = c.max.ensures.value in
    omega (arith, ints, clamps, at.value, at.range.0, at.range.1, s.0, s.1, m)

pub add-requires : goal.add-requires
add-requires c =
    let set = c.from_bits-set.result in
    let power : 2 ^ (c.args.n + 1) ≡ 2 ^ suc c.args.n = ap (λ (n : ℕ). 2 ^ n) (add-one c.args.n) in
    let s = c.requires.spare in
    let same : to_z w64 (of_z w64 c.args.spare) ≡ c.args.spare = omega (arith, ints, s.0, s.1) in
    let below : set < 2 ^ suc c.args.n = omega (arith, pow_pos (suc c.args.n), c.from_bits-set.ensures, c.loop-bits-test.true, c.bits-bits-end.ensures.value, c.whole.ensures) in
    let range = c.requires.range set below in
    let left = c.loop-bits.invariant.left set (omega (arith, c.from_bits-set.ensures)) in
    let by = amount c in
    (omega (arith, ints, clamps, range.0, range.1, left, by), omega (arith, ints, clamps, range.0, range.1, left, by))

pub loop-bits-preserved : goal.loop-bits-preserved
loop-bits-preserved c =
    let is = c.from_bits-set.ensures in
    let passing : ℕ → ℤ = λ set. int_max (pos 0) (number_of c.args.level.now set -ℤ to_z w64 (of_z w64 c.args.spare)) in
    record {
      done = one_done c.args.out.now c.loop-bits.out c.add.new.self passing c.loop-bits.bits c.from_bits-set.result _ is (amount c.before ∙ ap passing is) c.add.ensures.sum c.add.ensures.others c.loop-bits.invariant.done c.loop-bits.invariant.left;
      left = λ t h. c.add.ensures.others t (λ e. let same = e ∙ is in absurd (omega arith)) ∙ c.loop-bits.invariant.left t (omega arith);
    }
