use Rattle.std.proofs.Common.{◌≡◌, ◌∙◌, arith, pos, ap, length, to_z, of_z, w64}
use Rattle.std.proofs.lemmas.Int.{ints}
use Rattle.std.proofs.lemmas.List.Elements.{All-get_or, All-same}
use Rattle.mix_num.specs.Ranges.{Lies}
use Rattle.mix_bids.specs.Offers.{IsOffer}
use Rattle.mix_bids.proofs.MoreOffers.{gain_turn}
use Rattle.mix_bids.proofs.gain.gain.Goals as goal

pub better-greatest-requires-clause-offer : goal.better-greatest-requires-clause-offer
better-greatest-requires-clause-offer c =
    All-get_or IsOffer _ _ _ c.loop-i-test.true (All-same IsOffer _ _ c.as_slice-offers.ensures.value c.requires.offers.each)

pub loop-i-preserved : goal.loop-i-preserved
loop-i-preserved c =
    let r = All-get_or (Lies 4000000) _ c.loop-i.i (pos 0) (omega (arith, ap length c.as_slice-prices.ensures.value, ap length c.as_slice-offers.ensures.value)) (All-same (Lies 4000000) _ _ c.as_slice-prices.ensures.value c.requires.prices.1) in
    let same : to_z w64 (of_z w64 c.better-greatest.result) ≡ c.better-greatest.result = omega (arith, ints) in
    record {
      so_far = same ∙ gain_turn c.as_slice-offers.result.now c.as_slice-prices.result.now c.loop-i.i _ _ _ c.loop-i-test.true (omega (arith, ints)) c.loop-i.invariant.so_far c.better-greatest.ensures.value;
      range = omega (arith, ints);
    }
