use Rattle.std.proofs.Common.{◌≡◌, ◌∙◌, refl, arith, to_z, of_z, w64}
use Rattle.std.proofs.lemmas.Int.{ints, clamps}
use Rattle.mix_num.specs.Vectors.{members, with_null}
use Rattle.mix_bids.proofs.CappedFalls.{capped_falls}
use Rattle.mix_bids.proofs.Lengths.{over_of}
use Rattle.mix_cap.specs.Cappeds.{units_cap}
use Rattle.mix_cap.proofs.Counts.{told_by_lots}
use Rattle.mix_cap.proofs.capped.Capped.all_falls.Goals as goal

pub returns : goal.returns
returns c = record {
  falls = λ set h.
      let s = c.args.self.now in
      let x = with_null c.args.prices.now.items in
      let z = c.threshold_of-threshold.result in
      let lots = c.lots_at-lots.ensures.lots in
      let r = s.range in
      let cap : to_z w64 (of_z w64 s.cap) ≡ s.cap = omega (arith, ints, r.0, r.1) in
      let told = told_by_lots s.cap _ x s.list.bids _ z r.0 cap (c.as_slice.ensures.value ∙ lots) c.threshold_of-threshold.ensures.passed c.threshold_of-threshold.ensures.least in
      let f = capped_falls s.list.goods (units_cap s) z s.list.bids x (members set) (over_of s.list.goods s.list.bids s.proper) s.positive refl told.passed told.least in
      let e = c.fallen.ensures.falls set h in
      let m = c.served.ensures in
      let w : to_z w64 (of_z w64 c.served.result) ≡ c.served.result = omega (arith, ints, m.range.0, m.range.1) in
      omega (arith, ints, clamps, e, f, w, m.value);
}
