-- The same bidders in another order have the same prices.
use Rattle.std.proofs.Common.{◌≡◌, ◌<◌, ℕ, ℤ, pos, List, [], length, sym, ap, ap₂, ◌∙◌, subst, arith, Option, None}
use Rattle.std.proofs.lemmas.Int.{ints}
use Rattle.std.proofs.lemmas.List.{ext_get_or, get_or-map, length-map}
use Rattle.mix_num.specs.Vectors.{Vector}
use Rattle.mix_num.specs.Orders.{IsOrder, place_at}
use Rattle.mix_num.proofs.Orders.{place_below}
use Rattle.mix_bids.specs.Bids.{Book}
use Rattle.mix_text.specs.Auctions.{AuctionText}
use Rattle.mix_text.specs.Bidders.{bidder_at, list_at}
use Rattle.mix_text.specs.Caps.{cap_at}
use Rattle.mix_answer.specs.Truths.{IsTrueAnswer}
use Rattle.mix_answer.specs.Utilities.{entrant_utility, utilities_of}
use Rattle.mix_answer.specs.declared.outcome.Answer.{Answer}
use Rattle.mix_answer.proofs.Entrants.{length-utilities, utility-there}
use Rattle.mix_law.specs.Clearings.{AreLeastClearing, bidder_utility}
use Rattle.mix_laws.proofs.UtilityOrders.{utility-in_order}
use Rattle.mix_laws.specs.Orders.{utilities_in}
use Rattle.mix_laws.proofs.OtherOrders.{least-in_order}
use Rattle.mix_auction_laws.specs.Reorderings.{IsReordered}

-- least clearing prices are one list
least-once : (us : List (Vector → ℤ)) (supply reserve p q : List ℤ) → AreLeastClearing us supply reserve p → AreLeastClearing us supply reserve q → p ≡ q
least-once us supply reserve p q first second =
    let a = first.clear.2.size in
    let b = second.clear.2.size in
    ext_get_or (pos 0) p q (a ∙ sym b)
    (λ i h. let u = first.least q second.clear i (omega (arith, h, a)) in let v = second.least p first.clear i (omega (arith, h, a)) in omega (arith, ints))

module _ (a b : AuctionText) (order : List ℕ) (turned : IsReordered a order b) where
  abbrev nobody : List ℕ × Book
  nobody = ([], record { goods = 0; bids = [] })

  count : length b.bidders ≡ length order
  count = ap length turned.bidders ∙ length-map order (λ k. bidder_at a.bidders k)

  ordered : IsOrder (length (utilities_of a)) order
  ordered = subst (λ (m : ℕ). IsOrder m order) (sym (length-utilities a)) turned.places

  list-there : (j : ℕ) → j < length order → list_at b.bidders j ≡ list_at a.bidders (place_at order j)
  list-there j h =
      ap (λ (bs : List (List ℕ × Book)). list_at bs j) turned.bidders
      ∙ ap (λ (x : List ℕ × Book). x.1) (get_or-map (λ k. bidder_at a.bidders k) order j 0 nobody h)

  cap-there : (j : ℕ) → j < length order → cap_at b.caps j ≡ cap_at a.caps (place_at order j)
  cap-there j h = ap (λ (cs : List (Option ℤ)). cap_at cs j) turned.caps ∙ get_or-map (λ k. cap_at a.caps k) order j 0 None h

  utilities-turned : utilities_of b ≡ utilities_in order (utilities_of a)
  utilities-turned =
      let l = length-utilities b in
      let m = length-utilities a in
      let o = length-map order (λ k. bidder_utility (utilities_of a) k) in
      ext_get_or (λ x. pos 0) (utilities_of b) (utilities_in order (utilities_of a)) (l ∙ count ∙ sym o)
      (λ j h.
      let there : j < length order = omega (arith, h, l, count) in
      let below = place_below (length a.bidders) order j turned.places there in
      utility-there b j (omega (arith, h, l))
      ∙ ap entrant_utility (ap₂ (λ (list : Book) (cap : Option ℤ). record { list = list; cap = cap }) (list-there j there) (cap-there j there))
      ∙ sym (utility-there a (place_at order j) below)
      ∙ sym (utility-in_order (utilities_of a) order ordered j there))

  pub same-prices : (before after : Answer) → IsTrueAnswer a before → IsTrueAnswer b after → before.prices.items ≡ after.prices.items
  same-prices before after first second =
      let moved = least-in_order (utilities_of a) order ordered a.supply a.reserve before.prices.items first.solution.least in
      let P : List (Vector → ℤ) → List ℤ → List ℤ → Type 0 = λ us s r. AreLeastClearing us s r after.prices.items in
      let own = subst (λ (r : List ℤ). P (utilities_in order (utilities_of a)) a.supply r) turned.reserve
      (subst (λ (s : List ℤ). P (utilities_in order (utilities_of a)) s b.reserve) turned.supply
      (subst (λ (us : List (Vector → ℤ)). P us b.supply b.reserve) utilities-turned second.solution.least)) in
      least-once (utilities_in order (utilities_of a)) a.supply a.reserve before.prices.items after.prices.items moved own
