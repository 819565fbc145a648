-- What solves the market of an auction solves the auction.
use Rattle.std.proofs.Common.{◌≡◌, ℕ, ◌<◌, ◌*◌, List, ℤ, All, length, map, sym, ap₂, ◌∙◌, subst, arith}
use Rattle.mix_num.specs.Orders.{IsOrder, place_at}
use Rattle.mix_num.specs.Sellers.{AreAmounts, IsForSale}
use Rattle.mix_num.specs.Vectors.{Vector, with_null}
use Rattle.mix_law.specs.declared.convex.Convex.{Ghosts}
use Rattle.mix_law.specs.Scales.{KeepsScales}
use Rattle.mix_cap.specs.MemberLaws.{function_of}
use Rattle.mix_cap.proofs.UnderCaps.{under_keeps_scales}
use Rattle.mix_cap.specs.declared.member.Member.{Member}
use Rattle.mix_text.specs.Auctions.{AuctionText, IsAuction}
use Rattle.mix_text.specs.Bidders.{list_at}
use Rattle.mix_text.specs.Caps.{cap_at}
use Rattle.mix_text.proofs.TieOrders.{is_order}
use Rattle.mix_seller.specs.Sellers.{for_sale, reserve_of, supply_of}
use Rattle.mix_market.specs.Lyapunov.{IsLeastPoint, lyapunov}
use Rattle.mix_market.specs.Markets.{members_of, seller_of}
use Rattle.mix_market.specs.declared.market.Market.{Market}
use Rattle.mix_law.specs.Certificates.{IsFirstTightPair}
use Rattle.mix_law.specs.Clearings.{AreLeastClearing, Clears}
use Rattle.mix_clearing.specs.Fairness.{IsFair}
use Rattle.mix_clearing.specs.Scales.{AreLeastOfFractions, KeepScales}
use Rattle.mix_clearing.specs.Utilities.{KeepLaws}
use Rattle.mix_clearing.specs.Values.{AreWorthMost}
use Rattle.mix_clearing.proofs.FairOutcomes.{costs-where_each, fair-where_solved}
use Rattle.mix_clearing.proofs.Fractions.{least_of_fractions}
use Rattle.mix_clearing.proofs.Worths.{worth_most-where_clears}
use Rattle.mix_answer.specs.Refusals.{AreConvex}
use Rattle.mix_answer.specs.Shapes.{AreSets, HasAnswerShape, IsShare}
use Rattle.mix_answer.specs.Truths.{HaveFirstTights, IsTrueAnswer, bundles_of, pair_of}
use Rattle.mix_answer.specs.Utilities.{scaled_utilities_of, utilities_of}
use Rattle.mix_answer.specs.declared.outcome.Answer.{Answer}
use Rattle.mix_answer.proofs.Entrants.{length-scaled, length-utilities, scaled-there, utilities_once}
use Rattle.mix_answer.proofs.TrueRefusals.{list_at_ok}
use Rattle.mix_serve.specs.Admissions.{IsMarketOf}
use Rattle.mix_serve.specs.Answers.{IsAnswerFor}
use Rattle.mix_serve.proofs.AnswerShapes.{pairs_shape, price_amounts, return_amounts, shares_count, shares_shape}
use Rattle.mix_serve.proofs.AuctionPrices.{members_utilities}

-- the utilities keep the laws, the seller's numbers are in range, and the answer is one for them in the order
record IsSound (order : List ℕ) (answer : Answer) (utilities : List (Vector → ℤ)) (supply reserve : List ℤ) : Type 0 where
  laws : KeepLaws (length supply) utilities
  sale : IsForSale supply reserve
  own : IsAnswerFor utilities supply reserve order answer

-- from the market of an auction to the auction
of_auction : {g : Ghosts Member} (a : AuctionText) (market : Market Member g) (answer : Answer) → IsMarketOf a market
    → IsSound a.order answer (map function_of (members_of market)) (supply_of (seller_of market)) (reserve_of (seller_of market))
    → IsSound a.order answer (utilities_of a) a.supply a.reserve
of_auction a market answer is sound =
    let one = subst (λ (fs : List (Vector → ℤ)). IsSound a.order answer fs (supply_of (seller_of market)) (reserve_of (seller_of market))) (members_utilities a (members_of market) is.members) sound in
    let two = subst (λ (t : List ℤ). IsSound a.order answer (utilities_of a) t (reserve_of (seller_of market))) is.supply one in
    subst (λ (r : List ℤ). IsSound a.order answer (utilities_of a) a.supply r) is.reserve two

module _ (a : AuctionText) (answer : Answer) (is : IsAuction a) (convex : AreConvex a) (sound : IsSound a.order answer (utilities_of a) a.supply a.reserve) where
  count : length (utilities_of a) ≡ length a.bidders
  count = length-utilities a

  goods : length a.supply ≡ length a.goods
  goods = is.supply.0

  ordered : IsOrder (length (utilities_of a)) a.order
  ordered = subst (λ (m : ℕ). IsOrder m a.order) (sym count) (is_order (length a.bidders) a.order is.order)

  -- the pairs, by the auction's own counts
  first_tights : HaveFirstTights a answer
  first_tights k j h l =
      let First : ℕ → Type 0 = λ n. IsFirstTightPair (utilities_of a) a.supply a.reserve answer.prices.items a.order (bundles_of answer) k j
      (pair_of n answer (place_at a.order k) j).upper (pair_of n answer (place_at a.order k) j).lower in
      subst First goods (sound.own.tights.first k j (omega (arith, h, count)) (omega (arith, l, goods)))

  true_answer : IsTrueAnswer a answer
  true_answer = record {
    convex = convex;
    solution = sound.own.solution;
    payments = sound.own.payments;
    tights = λ k j h l. (first_tights k j h l).tight;
  }

  shape : HasAnswerShape a answer
  shape =
      let laws = sound.laws in
      let sale = sound.sale in
      let own = sound.own in
      record {
        prices = subst (λ (n : ℕ). AreAmounts n answer.prices.items) goods (price_amounts (utilities_of a) a.supply a.reserve a.order answer laws sale ordered own);
        count = shares_count (utilities_of a) a.supply a.reserve a.order answer laws sale ordered own ∙ count;
        shares = subst (λ (n : ℕ). All (IsShare n) answer.shares) goods (shares_shape (utilities_of a) a.supply a.reserve a.order answer laws sale ordered own);
        returns = subst (λ (n : ℕ). AreAmounts n answer.returns.items) goods (return_amounts (utilities_of a) a.supply a.reserve a.order answer laws sale ordered own);
        pairs = own.tights.count ∙ ap₂ (λ (m n : ℕ). m * n) count goods;
        tights = subst (λ (n : ℕ). All (AreSets n) answer.tights) goods (pairs_shape (utilities_of a) a.supply a.reserve a.order answer laws sale ordered own);
      }

  -- nothing is worth more
  worth : AreWorthMost (utilities_of a) a.supply a.reserve (bundles_of answer) answer.returns.items
  worth = worth_most-where_clears (utilities_of a) a.supply a.reserve answer.prices.items (bundles_of answer) answer.returns.items (sound.sale.reserves.0) sound.own.solution.clear

  -- the utilities go together at all scales
  scales : KeepScales (length a.supply) (scaled_utilities_of a)
  scales = subst (λ (n : ℕ). KeepScales n (scaled_utilities_of a)) (sym goods) (λ k l.
      let there : k < length a.bidders = let m = length-scaled a in omega (arith, m, l) in
      subst (λ (f : ℕ → Vector → ℤ). KeepsScales (length a.goods) f) (sym (scaled-there a k there))
      (under_keeps_scales (length a.goods) (cap_at a.caps k) (list_at a.bidders k).bids (list_at_ok a k is there).bids (is.caps.positive k) (convex k there)))

  -- and no prices with fractions clear below
  fractions : AreLeastOfFractions (scaled_utilities_of a) a.supply a.reserve answer.prices.items
  fractions =
      least_of_fractions (scaled_utilities_of a) a.supply scales a.reserve answer.prices.items sound.own.range.0
      (subst (λ (fs : List (Vector → ℤ)). IsLeastPoint (length a.supply) (lyapunov fs a.supply) (with_null a.reserve) (with_null answer.prices.items)) (sym (utilities_once a)) sound.own.least)

  -- the answer is fair
  fair : IsFair (scaled_utilities_of a) a.supply a.reserve answer.prices.items (bundles_of answer) (map (λ share. share.payment) answer.shares) answer.returns.items
  fair =
      let some = is.some_goods in
      let once = sym (utilities_once a) in
      fair-where_solved (scaled_utilities_of a) a.supply a.reserve answer.prices.items (bundles_of answer) (map (λ share. share.payment) answer.shares) answer.returns.items
      scales (subst (KeepLaws (length a.supply)) once sound.laws) (omega (arith, some, goods)) sound.sale.reserves.0
      (subst (λ (fs : List (Vector → ℤ)). AreLeastClearing fs a.supply a.reserve answer.prices.items) once sound.own.solution.least)
      (subst (λ (fs : List (Vector → ℤ)). Clears fs a.supply a.reserve answer.prices.items (bundles_of answer) answer.returns.items) once sound.own.solution.clear)
      (costs-where_each (λ share. share.payment) (λ share. share.bundle.items) answer.prices.items answer.shares sound.own.payments)

-- what is true of an answer to an auction
pub record Solves (a : AuctionText) (answer : Answer) : Type 0 where
  pub true_answer : IsTrueAnswer a answer
  pub shape : HasAnswerShape a answer
  pub first_tights : HaveFirstTights a answer
  pub worth : AreWorthMost (utilities_of a) a.supply a.reserve (bundles_of answer) answer.returns.items
  pub fractions : AreLeastOfFractions (scaled_utilities_of a) a.supply a.reserve answer.prices.items
  pub fair : IsFair (scaled_utilities_of a) a.supply a.reserve answer.prices.items (bundles_of answer) (map (λ share. share.payment) answer.shares) answer.returns.items

-- the answer for the market of an auction is one to the auction
pub solves_auction : {g : Ghosts Member} (a : AuctionText) (market : Market Member g) (answer : Answer) → IsAuction a → IsMarketOf a market
    → KeepLaws (length (supply_of (seller_of market))) (map function_of (members_of market))
    → IsAnswerFor (map function_of (members_of market)) (supply_of (seller_of market)) (reserve_of (seller_of market)) a.order answer
    → Solves a answer
solves_auction a market answer is of laws own =
    let sound = of_auction a market answer of (record { laws = laws; sale = for_sale (seller_of market); own = own }) in
    record {
      true_answer = true_answer a answer is of.convex sound;
      shape = shape a answer is of.convex sound;
      first_tights = first_tights a answer is of.convex sound;
      worth = worth a answer is of.convex sound;
      fractions = fractions a answer is of.convex sound;
      fair = fair a answer is of.convex sound;
    }
