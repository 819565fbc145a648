-- What holds of a range that was written: where the prices lie that clear, which of them do, that no bidder is worse off, and what all trades bring.
use Rattle.std.specs.Prelude.{◌≡◌, ◌<◌, ◌↔◌, ℕ, ℤ, pos, ◌+ℤ◌, ◌-ℤ◌, ◌≤ℤ◌, List, length, get_or, map, Option, Some, None, Ok, IfSome}
use Rattle.std.specs.Io.KnownBytes.{Appends}
use Rattle.arrayvec.specs.ArrayVec.{ArrayVec}
use Rattle.mix_num.specs.Orders.{places}
use Rattle.mix_num.specs.Sums.{dot_of}
use Rattle.mix_num.specs.Vectors.{with_null}
use Rattle.mix_market.specs.Lyapunov.{lyapunov}
use Rattle.mix_clearing.specs.Ceilings.{AreAtMost, CanClearUnder}
use Rattle.mix_law.specs.Clearings.{CanClear, bidder_utility}
use Rattle.mix_clearing.specs.Values.{HasValue}
use Rattle.mix_answer.specs.Utilities.{utilities_of}
use Rattle.mix_own.specs.Owned.{owned_at}
use Rattle.mix_own.specs.Trades.{net_of, paid}
use Rattle.mix_run.specs.command.Range.{RangeText, gross_auction, range_text, ranged_text, trade_at}
use Rattle.mix_run.specs.declared.command.range.Ranged.{Ranged}

-- prices of n goods from the low ones to the high ones; where there are no high ones, no prices are
abbrev pub IsBetween : ℕ → List ℤ → Option (ArrayVec ℤ) → List ℤ → Type 0
IsBetween n low None prices = ⊥
IsBetween n low (Some high) prices = AreAtMost n low prices × AreAtMost n prices high.items

-- all prices at or below the ceiling that clear in the gross auction lie between the low ones and the high ones
abbrev pub LieBetween : RangeText → Ranged → Type 0
LieBetween range ranged =
    let a = gross_auction range in
    (prices : List ℤ) → CanClearUnder (utilities_of a) a.supply a.reserve range.ceiling prices → IsBetween (length a.goods) ranged.low.items ranged.high prices

-- prices at or above the gross auction's reserves clear there exactly where its Lyapunov function is as small at them as at the low ones
abbrev pub ClearWhereAsLow : RangeText → Ranged → Type 0
ClearWhereAsLow range ranged =
    let a = gross_auction range in
    let value : List ℤ → ℤ = λ prices. lyapunov (utilities_of a) a.supply (with_null prices) in
    (prices : List ℤ) → length prices ≡ length a.goods → AreAtMost (length a.goods) a.reserve prices
    → CanClear (utilities_of a) a.supply a.reserve prices ↔ (value prices ≡ value ranged.low.items)

-- what a bidder has who owned this and gets the net amounts: good by good the sum
unfoldable pub held_of : List ℤ → List ℤ → List ℤ
held_of owned net = map (λ i. get_or owned i (pos 0) +ℤ get_or net i (pos 0)) (places (length net))

-- where what the bidder at a place owns has a value to it, what it has in the end has one too, which less the payment is no less
abbrev pub IsNoWorse : RangeText → Ranged → ℕ → Type 0
IsNoWorse range ranged k =
    let value = HasValue (length range.auction.goods) (bidder_utility (utilities_of range.auction) k) in
    let own = owned_at range.owned k in
    let trade = trade_at ranged.trades k in
    (v : ℤ) → value own v → (w : ℤ) × value (held_of own trade.net.items) w × (v ≤ℤ (w -ℤ trade.payment))

-- nobody is worse off than with what it owns
abbrev pub AreNoWorse : RangeText → Ranged → Type 0
AreNoWorse range ranged = (k : ℕ) → k < length range.auction.bidders → IsNoWorse range ranged k

-- all trades together bring what goes of the supply at the low prices
abbrev pub BringReceipts : RangeText → Ranged → Type 0
BringReceipts range ranged = paid ranged.trades ≡ dot_of ranged.low.items (net_of range.auction.supply ranged.returns.items)

-- of the range of the text, where that is told, something was written after the bytes taken that passes a test
abbrev pub WritesRange : (RangeText → Ranged → Type 0) → Option (List ℕ) → Option (List ℕ) → Option (List ℕ) → Type 0
WritesRange test text taken now =
    IfSome text (λ bytes. (range : RangeText) × (ranged : Ranged) × (range_text bytes ≡ Ok range) × Appends taken now (ranged_text range.auction ranged) × test range ranged)
