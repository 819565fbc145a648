-- What a refusal of a list shows.
use Rattle.mix_bids.specs.Bids.{Book}
use Rattle.mix_bids.specs.Facets.{IsNegativeFacet}
use Rattle.mix_bids.specs.Convexity.{IsConvexList}
use Rattle.mix_validity.specs.declared.refused.NotValid.{NotValid as Facet}
use Rattle.mix_validity.specs.declared.refused.Refused.{Refused}
use Rattle.mix_validity.specs.declared.refused.Refused.TheVariants.{NotValid, Memory}

-- the facet that a refusal carries has negative weight
abbrev pub HasFacet : Book → Facet → Type 0
HasFacet book facet = IsNegativeFacet book facet.first facet.second facet.prices.items facet.weight

-- a refusal shows that the list isn't convex: it has the facet that is carried; of want of memory nothing is said
abbrev pub ShowsNotConvex : Book → Refused → Type 0
ShowsNotConvex book (NotValid facet) = ¬ IsConvexList book.bids × HasFacet book facet
ShowsNotConvex book Memory = Unit {0}
