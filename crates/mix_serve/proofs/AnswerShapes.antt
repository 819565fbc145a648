-- How large the numbers of an answer are, and that its pairs are of sets of choices.
use Rattle.std.proofs.Common.{◌≡◌, ℕ, ◌+◌, ◌*◌, ◌/◌, ◌%◌, ◌<◌, ℤ, pos, List, [], All, length, get_or, sym, ◌∙◌, subst, arith}
use Rattle.std.proofs.lemmas.Int.{ints}
use Rattle.std.proofs.Math.Nat.{div-lt_iff_lt-mul, mod-lt}
use Rattle.std.proofs.lemmas.Nat.{div-add-mod'}
use Rattle.std.proofs.lemmas.List.{get_or-map, get_or_default, length-map}
use Rattle.mix_num.specs.Orders.{IsOrder, place_at}
use Rattle.mix_num.specs.Vectors.{Vector}
use Rattle.mix_num.specs.Sellers.{AreAmounts, IsForSale}
use Rattle.mix_num.specs.declared.pair.Tight.{Tight}
use Rattle.mix_num.proofs.Orders.{all-where_in_order, length-order}
use Rattle.mix_pay.proofs.PaymentBounds.{payment_bound}
use Rattle.mix_clearing.specs.Utilities.{KeepLaws}
use Rattle.mix_clearing.proofs.ClearedAmounts.{amounts, bundle-amounts, return-amounts}
use Rattle.mix_clearing.proofs.PriceLists.{floor-where_below}
use Rattle.mix_answer.specs.Shapes.{AreSets, IsShare}
use Rattle.mix_answer.specs.Truths.{bundles_of}
use Rattle.mix_answer.specs.declared.outcome.Answer.{Answer}
use Rattle.mix_answer.specs.declared.share.Share.{Share}
use Rattle.mix_serve.specs.Answers.{IsAnswerFor}

module _ (utilities : List (Vector → ℤ)) (supply reserve : List ℤ) (order : List ℕ) (answer : Answer) (laws : KeepLaws (length supply) utilities) (sale : IsForSale supply reserve)
    (ordered : IsOrder (length utilities) order) (own : IsAnswerFor utilities supply reserve order answer) where
  abbrev n : ℕ
  n = length supply

  pub price_amounts : AreAmounts n answer.prices.items
  price_amounts =
      amounts n answer.prices.items own.range.0 (λ i h.
      let low = floor-where_below n reserve answer.prices.items own.least.above i h in
      let reserve_at = sale.reserves.1 i (pos 0) (let e = sale.reserves.0 in omega arith) in
      let range = own.range.1 i (pos 0) (let e = own.range.0 in omega arith) in
      (omega (arith, ints, reserve_at.0), range.1))

  pub return_amounts : AreAmounts n answer.returns.items
  return_amounts = return-amounts utilities supply reserve answer.prices.items (bundles_of answer) answer.returns.items sale.some sale.supplies.1 laws own.solution.clear

  pub shares_count : length answer.shares ≡ length utilities
  shares_count = sym (length-map answer.shares (λ (s : Share). s.bundle.items)) ∙ own.solution.clear.count

  share_amounts : (k : ℕ) (d : Share) → k < length answer.shares → AreAmounts n (get_or answer.shares k d).bundle.items
  share_amounts k d l =
      subst (λ (x : List ℤ). AreAmounts n x) (get_or-map (λ (s : Share). s.bundle.items) answer.shares k d [] l)
      (bundle-amounts utilities supply reserve answer.prices.items (bundles_of answer) answer.returns.items sale.some sale.supplies.1 laws own.solution.clear k (omega (arith, l, shares_count)))

  pub shares_shape : All (IsShare n) answer.shares
  shares_shape k d l =
      let x = share_amounts k d l in
      let e = own.payments k d l in
      let b = payment_bound n answer.prices.items (get_or answer.shares k d).bundle.items sale.few price_amounts x in
      record { bundle = x; least = omega (arith, ints, e, b.0); most = omega (arith, ints, e, b.1) }

  -- each place among the pairs is that of a bidder and a good
  pub pairs_shape : All (AreSets n) answer.tights
  pairs_shape i d l =
      let none : Tight = record { upper = 0; lower = 0 } in
      let some : 0 < n = let h = sale.some in omega arith in
      let total : i < length utilities * n = subst (λ (m : ℕ). i < m) own.tights.count l in
      let k : i / n < length utilities = (div-lt_iff_lt-mul some).1 total in
      let j : i % n < n = mod-lt i some in
      let P : ℕ → Type 0 = λ m. AreSets n (get_or answer.tights m none) in
      let each : (turn : ℕ) → turn < length order → P (place_at order turn * n + i % n) =
      λ turn h. let pair = (own.tights.first turn (i % n) (omega (arith, h, length-order (length utilities) order ordered)) j).tight.pair in (pair.upper_set, pair.lower_set) in
      let at : AreSets n (get_or answer.tights i none) = subst P (div-add-mod' i n) (all-where_in_order (λ bidder. P (bidder * n + i % n)) (length utilities) order ordered each (i / n) k) in
      subst (AreSets n) (get_or_default answer.tights i none d l) at
