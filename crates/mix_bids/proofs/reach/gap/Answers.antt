use Rattle.std.proofs.Common.{sym, ◌∙◌, ◌+◌, ◌≡◌, ap, arith, get_or, length, not, of_z, pos, to_z, w64}
use Rattle.std.proofs.lemmas.Int.{ints}
use Rattle.std.proofs.lemmas.List.Elements.{All-get_or, All-same}
use Rattle.mix_num.specs.Vectors.{members, outside}
use Rattle.mix_num.specs.Ranges.{Lies}
use Rattle.mix_bids.specs.Offers.{IsOffer}
use Rattle.mix_bids.specs.Reaches.{gain_in}
use Rattle.mix_bids.specs.declared.reach.Gains.{Gains}
use Rattle.std.proofs.lemmas.List.{take_all}
use Rattle.mix_num.specs.Vectors.{with_null}
use Rattle.mix_bids.proofs.MoreOffers.{gain_in_turn}
use Rattle.mix_bids.proofs.reach.gap.Goals as goal
use Rattle.mix_bids.proofs.reach.gap.Goals.{then-i-offers, else-i-offers}

pub with-gains-requires-clause-offer : goal.with-gains-requires-clause-offer
with-gains-requires-clause-offer c =
    All-get_or IsOffer _ _ _ c.if-i-offers.true (All-same IsOffer _ _ c.as_slice-offers.ensures.value c.requires.offers.each)

pub loop-i-preserved : goal.loop-i-preserved
loop-i-preserved c =
    let vs = c.as_slice-offers.result.now in
    let ps = c.as_slice-prices.result.now in
    let s = members c.args.set in
    let i = c.loop-i.i in
    let before = c.loop-i.invariant in
    elim c.if-i-offers.branch [
      | then-i-offers w ↦
          let here = w.if-i-offers.true in
          let is = w.gains-is in
          let r = All-get_or (Lies 4000000) _ i (pos 0) (omega (arith, ap length c.as_slice-prices.ensures.value, ap length c.as_slice-offers.ensures.value)) (All-same (Lies 4000000) _ _ c.as_slice-prices.ensures.value c.requires.prices.1) in
          let price : to_z w64 (of_z w64 (get_or ps i (pos 0))) ≡ get_or ps i (pos 0) = omega (arith, ints) in
          let e = w.with-gains.ensures in
          let h = w.has.ensures in
          let inside = ap (λ (g : Gains). g.inside) is in
          let outer = ap (λ (g : Gains). g.outside) is in
          record {
            inside = inside ∙ gain_in_turn s vs ps i _ _ _ _ here price h before.inside e.inside;
            inside_range = (omega (arith, ints, inside, e.inside_range.0), omega (arith, ints, inside, e.inside_range.1));
            outside = outer ∙ gain_in_turn (outside s) vs ps i _ _ _ _ here price (ap not h) before.outside e.outside;
            outside_range = (omega (arith, ints, outer, e.outside_range.0), omega (arith, ints, outer, e.outside_range.1));
          }
      | else-i-offers w ↦
          let is = w.gains-is in
          let none = take_all i vs w.if-i-offers.false ∙ sym (take_all (i + 1) vs (omega (arith, w.if-i-offers.false))) in
          let inside = ap (λ (g : Gains). g.inside) is in
          let outer = ap (λ (g : Gains). g.outside) is in
          record {
            inside = inside ∙ before.inside ∙ ap (λ z. gain_in s z (with_null ps)) none;
            inside_range = (omega (arith, ints, inside, before.inside_range.0), omega (arith, ints, inside, before.inside_range.1));
            outside = outer ∙ before.outside ∙ ap (λ z. gain_in (outside s) z (with_null ps)) none;
            outside_range = (omega (arith, ints, outer, before.outside_range.0), omega (arith, ints, outer, before.outside_range.1));
          }
    ]
