use Rattle.std.proofs.Common.{ap, arith, ℤ, List, get_or, pos}
use Rattle.std.proofs.lemmas.Int.{ints}
use Rattle.mix_text.specs.AuctionTexts.{auction_text}
use Rattle.mix_own.proofs.GrossSupplies.{good_gross}
use Rattle.mix_own.proofs.own_reading.room.Goals as goal

pub returns-clause-value : goal.returns-clause-value
returns-clause-value c =
    let here = good_gross (auction_text c.args.auction.now) c.args.owned.now c.args.i c.args.auction.now.sound c.requires.owned c.requires.good in
    let supply = here.0 in
    let own = here.1 in
    let at = ap (λ (z : List ℤ). get_or z c.args.i (pos 0)) c.deref.ensures.0 in
    let together = c.together.ensures.value in
    omega (arith, ints, at, together, supply, own)

pub returns-clause-range : goal.returns-clause-range
returns-clause-range c =
    let here = good_gross (auction_text c.args.auction.now) c.args.owned.now c.args.i c.args.auction.now.sound c.requires.owned c.requires.good in
    let supply = here.0 in
    let own = here.1 in
    let all = here.2 in
    let at = ap (λ (z : List ℤ). get_or z c.args.i (pos 0)) c.deref.ensures.0 in
    let together = c.together.ensures.value in
    (omega (arith, ints, at, together, supply, own, all), omega (arith, ints, at, together, supply, own, all))
