-- The prices of true answers to two auctions of which one is scarcer.
use Rattle.std.proofs.Common.{◌≡◌, ◌<◌, ◌≤ℤ◌, ℤ, List, ◌+ℤ◌, ap, map, sym, ℕ, length, subst, ◌∙◌, arith}
use Rattle.std.proofs.lemmas.Int.{ints}
use Rattle.mix_num.specs.Sums.{dot_of, total}
use Rattle.mix_num.specs.Vectors.{with_null}
use Rattle.mix_law.specs.Clearings.{Clears, bidder_utility}
use Rattle.mix_law.specs.Members.{KeepsLaws}
use Rattle.mix_clearing.specs.Ceilings.{AreAtMost}
use Rattle.mix_clearing.proofs.FairOutcomes.{costs-where_each}
use Rattle.mix_clearing.proofs.FallingUtilities.{falls-where_lawful}
use Rattle.mix_clearing.proofs.PriceLists.{below-where_floor}
use Rattle.mix_text.specs.Auctions.{AuctionText, IsAuction}
use Rattle.mix_answer.specs.Truths.{IsTrueAnswer, bundles_of}
use Rattle.mix_answer.specs.Utilities.{utilities_of}
use Rattle.mix_answer.specs.declared.outcome.Answer.{Answer}
use Rattle.mix_answer.proofs.Entrants.{length-utilities}
use Rattle.mix_laws.proofs.BestPrices.{gains-where_higher}
use Rattle.mix_laws.proofs.ScarcerMarkets.{no_price_is_lower}
use Rattle.mix_scarcity.specs.Changes.{IsScarcerAuction}
use Rattle.mix_scarcity.proofs.AddedBids.{auction_laws}

pub scarcer-prices : (a b : AuctionText) → IsAuction a → IsScarcerAuction a b → (before after : Answer) → IsTrueAnswer a before → IsTrueAnswer b after
    → AreAtMost (length a.goods) before.prices.items after.prices.items
scarcer-prices a b sound scarcer before after first second =
    subst (λ (n : ℕ). AreAtMost n before.prices.items after.prices.items) sound.supply.0
    ((no_price_is_lower (utilities_of a) a.supply a.reserve (utilities_of b) b.supply b.reserve (auction_laws a sound first.convex) scarcer).least
    before.prices.items after.prices.items first.solution.least second.solution.least.clear)

-- what all pay, and what is returned at the reserves
pub scarcer-gains : (a b : AuctionText) → IsAuction a → IsScarcerAuction a b → b.supply ≡ a.supply → b.reserve ≡ a.reserve → (before after : Answer) → IsTrueAnswer a before → IsTrueAnswer b after
    → (total (map (λ share. share.payment) before.shares) +ℤ dot_of a.reserve before.returns.items) ≤ℤ (total (map (λ share. share.payment) after.shares) +ℤ dot_of a.reserve after.returns.items)
scarcer-gains a b sound scarcer supply reserve before after first second =
    let above = subst (λ (n : ℕ). AreAtMost n before.prices.items after.prices.items) (sym sound.supply.0) (scarcer-prices a b sound scarcer before after first second) in
    let clear = subst (λ (r : List ℤ). Clears (utilities_of b) a.supply r after.prices.items (bundles_of after) after.returns.items) reserve
    (subst (λ (s : List ℤ). Clears (utilities_of b) s b.reserve after.prices.items (bundles_of after) after.returns.items) supply second.solution.clear) in
    let gains = gains-where_higher (utilities_of a) (utilities_of b) a.supply a.reserve before.prices.items after.prices.items (bundles_of before) (bundles_of after) before.returns.items after.returns.items
    (sound.reserve.0 ∙ sym sound.supply.0) first.solution.clear clear above in
    let p = ap total (costs-where_each (λ share. share.payment) (λ share. share.bundle.items) before.prices.items before.shares first.payments) in
    let q = ap total (costs-where_each (λ share. share.payment) (λ share. share.bundle.items) after.prices.items after.shares second.payments) in
    omega (arith, ints)

-- a bidder's utility at prices that are no lower
pub scarcer-loses : (a b : AuctionText) → IsAuction a → IsScarcerAuction a b → (before after : Answer) → IsTrueAnswer a before → IsTrueAnswer b after → (k : ℕ) → k < length a.bidders
    → bidder_utility (utilities_of a) k (with_null after.prices.items) ≤ℤ bidder_utility (utilities_of a) k (with_null before.prices.items)
scarcer-loses a b sound scarcer before after first second k h =
    let m = length-utilities a in
    falls-where_lawful (length a.goods) (bidder_utility (utilities_of a) k) sound.some_goods
    (subst (λ (n : ℕ). KeepsLaws n (bidder_utility (utilities_of a) k)) sound.supply.0 (auction_laws a sound first.convex k (omega (arith, h, m)))) (with_null before.prices.items) (with_null after.prices.items)
    (below-where_floor (length a.goods) before.prices.items after.prices.items (scarcer-prices a b sound scarcer before after first second))
