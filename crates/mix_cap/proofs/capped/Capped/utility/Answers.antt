use Rattle.std.proofs.Common.{◌≡◌, ◌∙◌, ◌*ℤ◌, arith, pos, refl, ap, to_z, of_z, w64}
use Rattle.std.proofs.lemmas.Int.{ints}
use Rattle.mix_num.specs.Vectors.{with_null}
use Rattle.mix_bids.proofs.Thresholds.{capped_by}
use Rattle.mix_cap.specs.Cappeds.{units_cap}
use Rattle.mix_cap.specs.Lots.{lifted, sum_over}
use Rattle.mix_cap.proofs.Counts.{told_by_lots}
use Rattle.mix_cap.proofs.LotSums.{lifted_lots}
use Rattle.mix_cap.proofs.capped.Capped.utility.Goals as goal

pub returns-clause-value : goal.returns-clause-value
returns-clause-value c =
    let s = c.args.self.now in
    let x = with_null c.args.prices.now.items in
    let z = c.threshold_of-threshold.result in
    let lots = c.lots_at-lots.ensures.lots in
    let r = s.range in
    let cap : to_z w64 (of_z w64 s.cap) ≡ s.cap = omega (arith, ints, r.0, r.1) in
    let told = told_by_lots s.cap _ x s.list.bids _ z r.0 cap (c.as_slice.ensures.value ∙ lots) c.threshold_of-threshold.ensures.passed c.threshold_of-threshold.ensures.least in
    let e = capped_by (units_cap s) z s.list.bids x s.positive refl told.passed told.least in
    let l = c.lifted.ensures.value ∙ ap (sum_over (lifted (pos z))) (c.as_slice-2.ensures.value ∙ lots) ∙ lifted_lots (pos z) x s.list.bids s.positive in
    let lr = c.lifted.ensures.range in
    let u = c.units_at.ensures.value in
    let ur = c.units_at.ensures.range in
    let f = c.left.ensures.value in
    let fr = c.left.ensures.range in
    let w : to_z w64 (of_z w64 c.left.result) ≡ c.left.result = omega (arith, ints) in
    let g = ap (λ a. a *ℤ pos z) (w ∙ f) in
    omega (arith, ints)
