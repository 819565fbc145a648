-- The least prices of an auction whose bidders are convex are its least clearing prices.
use Rattle.std.proofs.Common.{◌≡◌, ◌↔◌, ℕ, ◌<◌, ℤ, List, length, refl, sym, ◌∙◌, subst, arith}
use Rattle.std.proofs.lemmas.Int.{ints}
use Rattle.mix_num.specs.Vectors.{Vector, with_null}
use Rattle.mix_num.specs.Sellers.{IsForSale}
use Rattle.mix_validity.proofs.ListLaws.{KeepsSmallLaws}
use Rattle.mix_cap.proofs.UnderCaps.{under_keeps_laws}
use Rattle.mix_text.specs.Auctions.{AuctionText, IsAuction}
use Rattle.mix_text.specs.Bidders.{list_at}
use Rattle.mix_text.specs.Caps.{cap_at}
use Rattle.mix_market.specs.Lyapunov.{IsLeastPoint, lyapunov}
use Rattle.mix_law.specs.Clearings.{AreLeastClearing, bidder_utility}
use Rattle.mix_answer.specs.Refusals.{AreConvex}
use Rattle.mix_answer.specs.Utilities.{utilities_of}
use Rattle.mix_answer.proofs.Entrants.{length-utilities, utility-there}
use Rattle.mix_answer.proofs.TrueRefusals.{list_at_ok}
use Rattle.mix_serve.specs.LeastPrices.{AreLeastPrices}
use Rattle.mix_solve.proofs.LeastPointsClear.{least_point-exactly}

module _ (a : AuctionText) (is : IsAuction a) (convex : AreConvex a) where
  goods : length a.supply ≡ length a.goods
  goods = is.supply.0

  sale : IsForSale a.supply a.reserve
  sale = record {
    some = let h = is.some_goods in omega (arith, goods, h);
    few = let h = is.few_goods in omega (arith, goods, h);
    supplies = (refl, is.supply.1);
    reserves = (is.reserve.0 ∙ sym goods, is.reserve.1);
  }

  -- each utility keeps the laws of members, with a small total
  each : (k : ℕ) → k < length (utilities_of a) → KeepsSmallLaws (length a.supply) (bidder_utility (utilities_of a) k)
  each k l =
      let there : k < length a.bidders = let n = length-utilities a in omega (arith, n, l) in
      let book = list_at_ok a k is there in
      subst (λ (m : ℕ). KeepsSmallLaws m (bidder_utility (utilities_of a) k)) (sym goods)
      (subst (λ (f : Vector → ℤ). KeepsSmallLaws (length a.goods) f) (sym (utility-there a k there))
      (under_keeps_laws (length a.goods) (cap_at a.caps k) (list_at a.bidders k).bids book.bids book.few (λ c e. (is.caps.range k c e, is.caps.positive k c e)) (convex k there)))

  exactly : (prices : List ℤ) → length prices ≡ length a.supply
      → IsLeastPoint (length a.supply) (lyapunov (utilities_of a) a.supply) (with_null a.reserve) (with_null prices) ↔ AreLeastClearing (utilities_of a) a.supply a.reserve prices
  exactly prices = least_point-exactly (utilities_of a) a.supply a.reserve prices (λ k l. (each k l).laws) (λ k l. let h = (each k l).small in omega (arith, ints, h)) sale

  pub least_prices-exactly : (prices : List ℤ) → AreLeastPrices a prices ↔ AreLeastClearing (utilities_of a) a.supply a.reserve prices
  least_prices-exactly prices = (
    (λ least. (exactly prices (least.count ∙ sym goods)).0 (subst Least (sym goods) least.least)),
    λ are. let long = are.clear.2.size in record { count = long ∙ goods; least = subst Least goods ((exactly prices long).1 are) },
  )
    where
      Least : ℕ → Type 0
      Least n = IsLeastPoint n (lyapunov (utilities_of a) a.supply) (with_null a.reserve) (with_null prices)
