-- A reason that holds tells that the outcome isn't true; and an answer that passes all tests is true.
use Rattle.std.proofs.Common.{◌≡◌, ℕ, ◌≤◌, ◌<◌, ℤ, pos, ◌<ℤ◌, List, [], length, get_or, sym, ap, ◌∙◌, subst, arith, w64, to_z, of_z}
use Rattle.std.proofs.lemmas.Int.{ints}
use Rattle.std.proofs.lemmas.List.Elements.{All-from_get_or, All-get_or}
use Rattle.mix_num.specs.Ranges.{AreWithin, Lies}
use Rattle.mix_num.specs.Vectors.{Vector, with_null}
use Rattle.mix_num.specs.Sums.{dot_of}
use Rattle.mix_num.specs.Orders.{in_order, place_at}
use Rattle.mix_num.specs.Pairs.{IsPair, IsTightOf}
use Rattle.mix_num.specs.declared.pair.Tight.{Tight as TightPair}
use Rattle.mix_num.proofs.Orders.{all-where_in_order, get-in_order}
use Rattle.mix_law.specs.Demands.{IsDemanded}
use Rattle.mix_market.specs.Lyapunov.{lyapunov}
use Rattle.mix_law.specs.Certificates.{tables_at}
use Rattle.mix_law.specs.Clearings.{Clears, bidder_utility}
use Rattle.mix_market.specs.Lowerings.{RisesWhereFallen}
use Rattle.mix_clearing.proofs.CheckedOutcomes.{checked_outcome}
use Rattle.mix_clearing.proofs.FallingPrices.{least_clearing-by_lowering}
use Rattle.mix_clearing.proofs.LyapunovLaws.{keep_local, lyapunov_keeps_local}
use Rattle.mix_bids.specs.Bids.{Book, facet_weight}
use Rattle.mix_text.specs.Auctions.{AuctionText, IsAuction}
use Rattle.mix_text.specs.Bidders.{list_at}
use Rattle.mix_text.proofs.TieOrders.{is_order}
use Rattle.mix_answer.specs.Refusals.{AreConvex, AreConvexBefore, IsTrueRefusal}
use Rattle.mix_answer.specs.Shapes.{FitsAuction, HasAnswerShape}
use Rattle.mix_answer.specs.Truths.{HaveTights, IsTrueAnswer, bundles_of, pair_of}
use Rattle.mix_answer.specs.Utilities.{utilities_of}
use Rattle.mix_answer.specs.declared.outcome.Answer.{Answer}
use Rattle.mix_answer.specs.declared.refusal.Refusal.{Refusal}
use Rattle.mix_answer.specs.declared.share.Share.{Share}
use Rattle.mix_answer.proofs.Entrants.{length-utilities}
use Rattle.mix_answer.proofs.TrueRefusals.{list_at_ok}
use Rattle.mix_check.specs.declared.reason.Reason.{Reason}
use Rattle.mix_check.specs.declared.reason.Reason.TheVariants.{Demand, Earlier, Facet, Floor, Invalid, Lower, Pair, Pay, Return, Sum, Tight}
use Rattle.mix_check.specs.Reasons.{HoldsOfAnswer, HoldsOfRefusal, IsNotTight, bundle_of, weight_of}
use Rattle.mix_check.specs.Tests.{AddUp, AreAboveReserves, AreDemanded, ArePaid, AreReturnedAtReserves, Rises}
use Rattle.mix_check.proofs.EitherKind.{none_negative}
use Rattle.mix_check.proofs.AuctionFacts.{bundle-amounts, bundle-at, given_some, laws, length-bundles, order-ordered, payment-at, stocked}

-- a reason against a refusal
pub refusal_untrue : (a : AuctionText) (r : Refusal) (reason : Reason) → HoldsOfRefusal a r reason → ¬ IsTrueRefusal a r
refusal_untrue a r (Facet weight) holds true = holds.1 (holds.0 ∙ sym true.facet.weight)
refusal_untrue a r (Earlier k) holds true = holds.1 (true.first k holds.0)
refusal_untrue a r other holds true = holds

-- the weight that is worked out is that of the refusal
pub weight-same : (a : AuctionText) (r : Refusal) → FitsAuction a r → (book : Book) → book ≡ list_at a.bidders r.bidder → (weight : ℤ) → weight ≡ facet_weight book.goods r.first r.second book.bids (with_null r.prices.items)
    → Lies 4000000 weight → of_z w64 weight ≡ of_z w64 r.weight → weight_of a r ≡ r.weight
weight-same a r fits book listed weight value lies e =
    let is = value ∙ ap (λ (b : Book). facet_weight b.goods r.first r.second b.bids (with_null r.prices.items)) listed in
    let same = ap (to_z w64) e in
    let low = fits.least in
    let high = fits.negative in
    omega (arith, ints, is, lies, same, low, high)

-- a refusal whose weight is the facet weight there, of the first bidder that isn't convex
pub true_refusal : (a : AuctionText) (r : Refusal) → IsAuction a → FitsAuction a r → weight_of a r ≡ r.weight → AreConvexBefore a r.bidder → IsTrueRefusal a r
true_refusal a r sound fits same before =
    let book : Book = list_at a.bidders r.bidder in
    let is = list_at_ok a r.bidder sound fits.bidder in
    let goods = is.goods in
    let prices = subst (λ (n : ℕ). AreWithin 2000000 n r.prices.items) (sym goods) fits.prices in
    let choices = fits.choices in
    let within : r.second ≤ book.goods = omega (arith, goods, choices) in
    let low = fits.negative in
    let negative : r.weight <ℤ pos 0 = omega (arith, ints, low) in
    record {
      bidder = fits.bidder;
      first = before;
      refused = λ convex.
          let none = none_negative a r.bidder sound fits.bidder convex r.first r.second fits.order within r.prices.items prices.0 in
          omega (arith, ints, none, same, negative);
      facet = record { order = fits.order; within = within; prices = prices; weight = sym same; negative = negative };
    }

module _ (a : AuctionText) (answer : Answer) (sound : IsAuction a) (shape : HasAnswerShape a answer) where
  goods : length a.supply ≡ length a.goods
  goods = sound.supply.0

  abbrev utilities : List (Vector → ℤ)
  utilities = utilities_of a

  -- where the lists are convex, prices that clear are the least exactly where no set can fall without a rise
  rises-where_true : IsTrueAnswer a answer → Rises a answer
  rises-where_true true =
      let keeps = lyapunov_keeps_local utilities a.supply (keep_local (length a.supply) utilities (laws a sound true.convex)) in
      let clear = true.solution.clear in
      let rises = (least_clearing-by_lowering utilities a.supply a.reserve answer.prices.items keeps.1 (bundles_of answer, answer.returns.items, clear)).0 true.solution.least in
      subst (λ (n : ℕ). RisesWhereFallen n (lyapunov utilities a.supply) (with_null a.reserve) (with_null answer.prices.items)) goods rises

  -- the pair of a bidder at its turn
  tight-where_true : IsTrueAnswer a answer → (turn j : ℕ) → turn < length a.bidders → j < length a.goods
      → let pair = pair_of (length a.goods) answer (place_at a.order turn) j in
      IsTightOf (length a.goods) (tables_at utilities a.supply a.reserve answer.prices.items a.order) a.supply (in_order a.order (bundles_of answer)) turn j pair.upper pair.lower
  tight-where_true true turn j l h =
      let pair : TightPair = pair_of (length a.goods) answer (place_at a.order turn) j in
      subst (λ (n : ℕ). IsTightOf n (tables_at utilities a.supply a.reserve answer.prices.items a.order) a.supply (in_order a.order (bundles_of answer)) turn j pair.upper pair.lower)
      goods (true.tights turn j l h)

  pub bundle-in_turn : (turn k : ℕ) → turn < length a.order → place_at a.order turn ≡ k → get_or (in_order a.order (bundles_of answer)) turn [] ≡ bundle_of answer k
  bundle-in_turn turn k l e = get-in_order (bundles_of answer) a.order turn l ∙ ap (λ (i : ℕ). bundle_of answer i) e

  -- a reason against an answer
  pub answer_untrue : (reason : Reason) → HoldsOfAnswer a answer reason → ¬ IsTrueAnswer a answer
  answer_untrue (Invalid k) holds true = holds.1 (true.convex k holds.0)
  answer_untrue (Floor i) holds true =
      let f = true.solution.clear.floor i (omega (arith, holds.0, goods)) in
      let below = holds.1 in
      omega (arith, ints, f, below)
  answer_untrue (Sum i sum) holds true = holds.2 (holds.1 ∙ true.solution.clear.sum i (omega (arith, holds.0, goods)))
  answer_untrue (Return i) holds true = holds.2 (true.solution.clear.lawful.at_reserve i (omega (arith, holds.0, goods)) holds.1)
  answer_untrue (Demand k set) holds true =
      let count = length-utilities a in
      holds.1.undemanded (subst (λ (n : ℕ). IsDemanded n (bidder_utility utilities k) answer.prices.items (bundle_of answer k)) goods (true.solution.clear.demanded k (omega (arith, holds.0, count))))
  answer_untrue (Lower set) holds true =
      let up = rises-where_true true set holds.can_fall in
      let low = holds.no_rise in
      omega (arith, ints, up, low)
  answer_untrue (Pay k amount) holds true =
      let d : Share = record { bundle = record { items = [] }; payment = pos 0 } in
      let count = shape.count in
      let right = All-get_or (λ (share : Share). share.payment ≡ dot_of answer.prices.items share.bundle.items) answer.shares k d (omega (arith, holds.0, count)) true.payments in
      holds.2 (payment-at a answer shape k d holds.0 ∙ right ∙ ap (λ (b : List ℤ). dot_of answer.prices.items b) (sym (bundle-at a answer shape k d holds.0)) ∙ sym holds.1)
  answer_untrue (Pair k j) holds true =
      let size = sound.order.size in
      let Paired : ℕ → Type 0 = λ i. IsPair (length a.goods) j (pair_of (length a.goods) answer i j).upper (pair_of (length a.goods) answer i j).lower in
      holds.2 (all-where_in_order Paired (length a.bidders) a.order (is_order (length a.bidders) a.order sound.order) (λ turn l. (tight-where_true true turn j (omega (arith, l, size)) holds.1).pair) k holds.0)
  answer_untrue (Tight k j bound) holds true =
      let wrong : IsNotTight a answer k j bound = holds.2 in
      let few = sound.order.size in
      let inside = wrong.within in
      let tight = tight-where_true true wrong.turn j (omega (arith, inside, few)) holds.1 in
      wrong.other (wrong.number ∙ tight.number ∙ ap (λ (b : List ℤ). get_or b j (pos 0)) (bundle-in_turn wrong.turn k wrong.within wrong.served))
  answer_untrue other holds true = holds

  -- what passes the tests clears
  clears : AreAboveReserves a answer → AddUp a answer → AreReturnedAtReserves a answer → AreDemanded a answer → Clears utilities a.supply a.reserve answer.prices.items (bundles_of answer) answer.returns.items
  clears above sums at demanded = record {
    size = shape.prices.0 ∙ sym goods;
    floor = λ i l. above i (omega (arith, l, goods));
    count = length-bundles a answer shape ∙ sym (length-utilities a);
    sizes = λ k l. let count = length-utilities a in (bundle-amounts a answer shape k (omega (arith, l, count))).0 ∙ sym goods;
    demanded = λ k l. let count = length-utilities a in subst (λ (n : ℕ). IsDemanded n (bidder_utility utilities k) answer.prices.items (bundle_of answer k)) (sym goods) (demanded k (omega (arith, l, count)));
    lawful = record {
      size = shape.returns.0 ∙ sym goods;
      some = λ i l. (shape.returns.1 i (pos 0) (let e = shape.returns.0 in omega (arith, l, e, goods))).0;
      most = λ i l. let s = sums i (omega (arith, l, goods)) in let g = given_some a answer shape i (omega (arith, l, goods)) in omega (arith, ints, s, g);
      at_reserve = λ i l some. at i (omega (arith, l, goods)) some;
    };
    sum = λ i l. sums i (omega (arith, l, goods));
  }

  -- and is true
  pub true_answer : AreConvex a → AreAboveReserves a answer → AddUp a answer → AreReturnedAtReserves a answer → AreDemanded a answer → Rises a answer → ArePaid a answer → HaveTights a answer
      → IsTrueAnswer a answer
  true_answer convex above sums at demanded rises paid tights = record {
    convex = convex;
    solution = checked_outcome utilities a.supply a.reserve answer.prices.items a.order (bundles_of answer) answer.returns.items (laws a sound convex) (order-ordered a sound) (stocked a sound)
        (clears above sums at demanded)
        (subst (λ (n : ℕ). RisesWhereFallen n (lyapunov utilities a.supply) (with_null a.reserve) (with_null answer.prices.items)) (sym goods) rises)
        (λ k j l h.
        let few = sound.order.size in
        let pair : TightPair = pair_of (length a.goods) answer (place_at a.order k) j in
        (pair.upper, pair.lower, tights k j (omega (arith, l, few)) (omega (arith, h, goods))));
    payments = All-from_get_or (λ (share : Share). share.payment ≡ dot_of answer.prices.items share.bundle.items) answer.shares no_share
        (λ k l.
        let count = shape.count in
        let h : k < length a.bidders = omega (arith, l, count) in
        sym (payment-at a answer shape k no_share h) ∙ paid k h ∙ ap (λ (b : List ℤ). dot_of answer.prices.items b) (bundle-at a answer shape k no_share h));
    tights = tights;
  }
    where
      no_share : Share
      no_share = record { bundle = record { items = [] }; payment = pos 0 }
