use Rattle.std.proofs.Common.{◌≡◌, ◌∙◌, ◌*ℤ◌, ap₂, arith, to_z, of_z, w64, pos, get_or}
use Rattle.std.proofs.lemmas.Int.{ints}
use Rattle.std.proofs.lemmas.List.Elements.{All-get_or}
use Rattle.std.specs.Int.{int_max}
use Rattle.mix_cap.specs.Lots.{IsLot, lifted}
use Rattle.mix_cap.proofs.LotSums.{sum_step}
use Rattle.mix_cap.proofs.lots.lifted.Goals as goal

pub loop-lot-preserved : goal.loop-lot-preserved
loop-lot-preserved c =
    let k = c.loop-lot.lot-index in
    let lot = get_or c.args.lots.now k (record { gain = pos 0; units = pos 0 }) in
    let is = All-get_or IsLot c.args.lots.now k (record { gain = pos 0; units = pos 0 }) c.loop-lot-test.true c.requires.lots in
    let gain : to_z w64 (of_z w64 lot.gain) ≡ lot.gain = omega (arith, ints, is.gain.0, is.gain.1) in
    let units : to_z w64 (of_z w64 lot.units) ≡ lot.units = omega (arith, ints, is.units.0, is.units.1) in
    let z : to_z w64 (of_z w64 c.from.result) ≡ c.from.result = omega (arith, ints) in
    let m : to_z w64 (of_z w64 c.max.result) ≡ c.max.result = omega (arith, ints) in
    let v = c.units_at-sum.ensures.value ∙ ap₂ (λ u g. u *ℤ g) units (m ∙ c.max.ensures.value ∙ ap₂ int_max gain (z ∙ c.from.ensures)) in
    let r = c.units_at-sum.ensures.range in
    let before = c.loop-lot.invariant in
    let low = before.range in
    record {
      so_far = sum_step (lifted (pos c.args.threshold)) c.args.lots.now k (record { gain = pos 0; units = pos 0 }) (to_z w64 c.loop-lot.sum-bits) _ _ c.loop-lot-test.true (omega (arith, ints, v, r.0, r.1, low.0, low.1)) before.so_far;
      range = (omega (arith, ints, r.0, r.1, low.0, low.1), omega (arith, ints, r.0, r.1, low.0, low.1));
    }
