use Rattle.std.proofs.Common.{◌≡◌, map, take}
use Rattle.mix_canon.specs.Searches.{price_of}
use Rattle.mix_canon.proofs.points.own_prices.Given as goal

abbrev pub invariant-loop-offer : goal.invariant-loop-offer
invariant-loop-offer l = l.prices.items ≡ map price_of (take l.offer-index l.offers)
