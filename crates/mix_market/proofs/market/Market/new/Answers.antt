use Rattle.std.proofs.Common.{◌≡◌, ◌∙◌, ℕ, suc, List, All, arith, ap₂, add-one, subst, sym, to_z, of_z, w64}
use Rattle.std.proofs.lemmas.Int.{ints}
use Rattle.std.proofs.lemmas.List.Elements.{All-push}
use Rattle.mix_num.specs.Ranges.{Lies}
use Rattle.mix_market.specs.Extremes.{greatest_of}
use Rattle.mix_market.proofs.MemberExtremes.{numbers_next}
use Rattle.mix_market.proofs.market.Market.new.Goals as goal

pub loop-place-preserved : goal.loop-place-preserved
loop-place-preserved g c =
    let tops = c.loop-place.tops.items in
    let range = c.highest_top.ensures.range in
    let same : to_z w64 (of_z w64 c.highest_top.result) ≡ c.highest_top.result = omega (arith, ints, range.0, range.1) in
    let members = ap₂ (λ (good : ℕ) (z : List g.row.D.Denot). greatest_of (λ member. g.D.Convex.top member good) z) (add-one c.loop-place.place) c.deref-in-loop-place.ensures.value in
    record {
      count = omega (arith, c.push.ensures.len);
      range = subst (All (Lies 1000000)) (sym c.push.ensures.items) (All-push (Lies 1000000) tops _ c.loop-place.invariant.range (subst (Lies 1000000) (sym same) range));
      greatest = numbers_next (λ (place : ℕ). greatest_of (λ member. g.D.Convex.top member (suc place)) c.args.members.items) tops c.push.new.self.items c.loop-place.place _ c.push.ensures.items c.loop-place.invariant.count (same ∙ c.highest_top.ensures.value ∙ members) c.loop-place.invariant.greatest;
    }
