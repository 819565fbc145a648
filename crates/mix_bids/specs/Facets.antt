-- Facets of negative weight of a list of bids.
use Rattle.std.specs.Prelude.{◌≡◌, ℕ, ◌<◌, ◌≤◌, List, ℤ, pos, ◌<ℤ◌}
use Rattle.mix_num.specs.Vectors.{with_null}
use Rattle.mix_num.specs.Ranges.{AreWithin}
use Rattle.mix_bids.specs.Bids.{Book, facet_weight}

-- two choices in order, a price for each good, and the facet weight of the choices there, which is negative
pub record IsNegativeFacet (book : Book) (first second : ℕ) (place : List ℤ) (amount : ℤ) : Type 0 where
  pub order : first < second
  pub within : second ≤ book.goods
  pub prices : AreWithin 2000000 book.goods place
  pub weight : amount ≡ facet_weight book.goods first second book.bids (with_null place)
  pub negative : amount <ℤ pos 0
