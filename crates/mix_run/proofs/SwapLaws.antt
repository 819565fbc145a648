-- What holds of a range: where the prices lie that clear, which of them do, that nobody is worse off, and what all trades bring.
use Rattle.std.proofs.Common.{◌≡◌, ◌∙◌, ◌↔◌, ℕ, ◌<◌, ℤ, pos, ◌+ℤ◌, ◌-ℤ◌, ◌≤ℤ◌, List, [], length, get_or, Option, Some, None, ap, subst, sym, arith}
use Rattle.std.specs.List.{zip}
use Rattle.std.proofs.lemmas.Int.{ints}
use Rattle.std.proofs.lemmas.List.{ext_get_or, get_or-map}
use Rattle.std.proofs.lemmas.List.FromFn.{get_or-map-range_with_len, length-map-range_with_len}
use Rattle.std.proofs.lemmas.Slice.Zip.{get_or-zip, length-zip}
use Rattle.arrayvec.specs.ArrayVec.{ArrayVec}
use Rattle.mix_num.specs.Sums.{dot_of}
use Rattle.mix_num.specs.Vectors.{Vector, with_null}
use Rattle.mix_law.specs.Demands.{IsDemanded}
use Rattle.mix_market.specs.Lyapunov.{lyapunov}
use Rattle.mix_clearing.specs.Ceilings.{CanClearUnder}
use Rattle.mix_law.specs.Clearings.{CanClear, bidder_bundle, bidder_utility}
use Rattle.mix_clearing.specs.Values.{HasValue}
use Rattle.mix_clearing.proofs.Ceilings.{clears-exactly}
use Rattle.mix_clearing.proofs.PriceLists.{below-where_floor}
use Rattle.mix_clearing.proofs.Worths.{value-where_demanded}
use Rattle.mix_answer.proofs.Entrants.{length-utilities}
use Rattle.mix_answer.specs.Shapes.{HasAnswerShape}
use Rattle.mix_answer.specs.Truths.{bundles_of}
use Rattle.mix_answer.specs.Utilities.{utilities_of}
use Rattle.mix_answer.specs.declared.outcome.Answer.{Answer}
use Rattle.mix_answer.specs.declared.share.Share.{Share}
use Rattle.mix_text.specs.Auctions.{AuctionText}
use Rattle.mix_own.specs.Owned.{gross_of, owned_at}
use Rattle.mix_own.specs.Trades.{net_of, paid, trade_of, trades_of}
use Rattle.mix_own.specs.declared.trade.Trade.{Trade}
use Rattle.mix_own.proofs.GrossSupplies.{length-gross}
use Rattle.mix_own.proofs.NetAmounts.{dot_of_net, length-net, net_at}
use Rattle.mix_own.proofs.TradeReceipts.{receipts_are}
use Rattle.mix_run.specs.command.Range.{IsHigh, IsRange, IsRanged, RangeText, gross_auction, trade_at}
use Rattle.mix_run.specs.command.Swaps.{AreNoWorse, BringReceipts, ClearWhereAsLow, IsBetween, LieBetween, held_of}
use Rattle.mix_run.specs.declared.command.range.Ranged.{Ranged}

-- ---- prices

above_none : (gross : AuctionText) (ceiling low prices : List ℤ) (high : Option (ArrayVec ℤ)) → length gross.supply ≡ length gross.goods
    → ((i : ℕ) → i < length gross.supply → get_or low i (pos 0) ≤ℤ get_or prices i (pos 0)) → CanClearUnder (utilities_of gross) gross.supply gross.reserve ceiling prices
    → IsHigh gross ceiling low high → IsBetween (length gross.goods) low high prices
above_none gross ceiling low prices None goods least can high =
    let over = least high.0 (omega (arith, goods, high.1)) in
    let under = can.1 high.0 (omega (arith, goods, high.1)) in
    omega (arith, ints, over, under, high.2)
above_none gross ceiling low prices (Some found) goods least can high =
    ((λ i l. least i (omega (arith, goods, l))), λ i l. high.greatest prices can i (omega (arith, goods, l)))

pub lie_between : (range : RangeText) (ranged : Ranged) → IsRange range → IsRanged (gross_auction range) range.owned range.ceiling ranged → LieBetween range ranged
lie_between range ranged lawful is = λ prices can.
    let goods = length-gross range.auction.supply range.owned ∙ lawful.auction.supply.0 in
    let between = above_none (gross_auction range) range.ceiling is.answer.prices.items prices ranged.high goods (is.truth.solution.least.least prices can.0) can is.high in
    subst (λ (low : List ℤ). IsBetween (length range.auction.goods) low ranged.high prices) (sym is.low) between

pub clear_where_as_low : (range : RangeText) (ranged : Ranged) → IsRange range → IsRanged (gross_auction range) range.owned range.ceiling ranged → ClearWhereAsLow range ranged
clear_where_as_low range ranged lawful is = λ prices size above.
    let a = gross_auction range in
    let us = utilities_of a in
    let goods : length a.supply ≡ length a.goods = length-gross range.auction.supply range.owned ∙ lawful.auction.supply.0 in
    let floor = below-where_floor (length a.supply) a.reserve prices (λ i l. above i (omega (arith, goods, l))) in
    let exactly = clears-exactly us a.supply a.reserve is.answer.prices.items is.truth.solution.least.clear prices (size ∙ sym goods) floor in
    subst (λ (low : List ℤ). CanClear us a.supply a.reserve prices ↔ (lyapunov us a.supply (with_null prices) ≡ lyapunov us a.supply (with_null low))) (sym is.low) exactly

-- ---- trades

no_share : Share
no_share = record { bundle = record { items = [] }; payment = pos 0 }

-- the trade of a bidder, by what it gets and what it owns
trade_is : (owned : List (List ℤ)) (answer : Answer) (k : ℕ) → length owned ≡ length answer.shares → k < length answer.shares
    → let net = net_of (bidder_bundle (bundles_of answer) k) (owned_at owned k) in
    trade_at (trades_of owned answer) k ≡ record { net = record { items = net }; payment = dot_of answer.prices.items net }
unfolding trades_of no_share
trade_is owned answer k long l =
    let pairs : List (Share × List ℤ) = zip answer.shares owned in
    let inside : k < length pairs = omega (arith, long, l, length-zip answer.shares owned) in
    let pair = get_or-zip answer.shares owned k (no_share, []) l (omega (arith, long, l)) in
    let bundle = get_or-map (λ (share : Share). share.bundle.items) answer.shares k no_share [] l in
    get_or-map (λ p. trade_of answer.prices.items p.0 p.1) pairs k (no_share, []) (record { net = record { items = [] }; payment = pos 0 }) inside
    ∙ ap (λ (p : Share × List ℤ). trade_of answer.prices.items p.0 p.1) pair
    ∙ ap (λ (got : List ℤ). let net = net_of got (owned_at owned k) in let trade : Trade = record { net = record { items = net }; payment = dot_of answer.prices.items net } in trade) (sym bundle)

-- what is owned and the net amounts are what the bidder gets
held_is : (bundle owned : List ℤ) → held_of owned (net_of bundle owned) ≡ bundle
unfolding held_of
held_is bundle owned =
    let net = net_of bundle owned in
    let n = length-net bundle owned in
    let size = length-map-range_with_len (λ i. get_or owned i (pos 0) +ℤ get_or net i (pos 0)) 0 (length net) in
    ext_get_or (pos 0) (held_of owned net) bundle (size ∙ n) (λ i l.
    let inside : i < length net = omega (arith, l, size) in
    let sum = get_or-map-range_with_len (λ j. get_or owned j (pos 0) +ℤ get_or net j (pos 0)) 0 (length net) i i (pos 0) inside (omega arith) in
    let part = net_at bundle owned i (omega (arith, inside, n)) in
    omega (arith, ints, sum, part))

-- a demanded bundle, less what it costs beyond what is owned, is worth no less than what is owned
no_worse_of : (n : ℕ) (f : Vector → ℤ) (p bundle owned : List ℤ) (v : ℤ) → length p ≡ n → length bundle ≡ n → IsDemanded n f p bundle → HasValue n f owned v
    → (w : ℤ) × HasValue n f (held_of owned (net_of bundle owned)) w × (v ≤ℤ (w -ℤ dot_of p (net_of bundle owned)))
no_worse_of n f p bundle owned v prices size demanded value =
    let own = value.over p prices in
    let cost = dot_of_net p bundle owned (prices ∙ sym size) in
    let got = value-where_demanded n f p bundle prices demanded in (
      f (with_null p) +ℤ dot_of p bundle,
      subst (λ (held : List ℤ). HasValue n f held (f (with_null p) +ℤ dot_of p bundle)) (sym (held_is bundle owned)) got,
      omega (arith, ints, own, cost),
    )

pub are_no_worse : (range : RangeText) (ranged : Ranged) → IsRange range → IsRanged (gross_auction range) range.owned range.ceiling ranged → AreNoWorse range ranged
are_no_worse range ranged lawful is k l = λ v value.
    let answer = is.answer in
    let own = owned_at range.owned k in
    let f = bidder_utility (utilities_of range.auction) k in
    let n = length range.auction.goods in
    let bundle = bidder_bundle (bundles_of answer) k in
    let clear = is.truth.solution.clear in
    let goods = length-gross range.auction.supply range.owned ∙ lawful.auction.supply.0 in
    let place : k < length (utilities_of range.auction) = omega (arith, l, length-utilities range.auction) in
    let demanded : IsDemanded n f answer.prices.items bundle = subst (λ (m : ℕ). IsDemanded m f answer.prices.items bundle) goods (clear.demanded k place) in
    let better = no_worse_of n f answer.prices.items bundle own v is.shape.prices.0 (clear.sizes k place ∙ goods) demanded value in
    let count : length range.owned ≡ length answer.shares = lawful.owned.count ∙ sym is.shape.count in
    let trade = ap (λ (trades : List Trade). trade_at trades k) is.trades ∙ trade_is range.owned answer k count (omega (arith, l, is.shape.count)) in
    subst (λ (t : Trade). (w : ℤ) × HasValue n f (held_of own t.net.items) w × (v ≤ℤ (w -ℤ t.payment))) (sym trade) better

-- ---- receipts

shape_of_gross : (a : AuctionText) (owned : List (List ℤ)) (answer : Answer) → HasAnswerShape (gross_of a owned) answer → HasAnswerShape a answer
shape_of_gross a owned answer s = record { prices = s.prices; count = s.count; shares = s.shares; returns = s.returns; pairs = s.pairs; tights = s.tights }

pub bring_receipts : (range : RangeText) (ranged : Ranged) → IsRange range → IsRanged (gross_auction range) range.owned range.ceiling ranged → BringReceipts range ranged
bring_receipts range ranged lawful is =
    let answer = is.answer in
    let a = range.auction in
    let goods = length-gross a.supply range.owned ∙ lawful.auction.supply.0 in
    let all = receipts_are a lawful.auction range.owned lawful.owned answer (shape_of_gross a range.owned answer is.shape) (λ i l. is.truth.solution.clear.sum i (omega (arith, l, goods))) in
    ap paid is.trades ∙ all
    ∙ ap (λ (low : List ℤ). dot_of low (net_of a.supply answer.returns.items)) (sym is.low)
    ∙ ap (λ (returns : List ℤ). dot_of ranged.low.items (net_of a.supply returns)) (sym is.returns)
