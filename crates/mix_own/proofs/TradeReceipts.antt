-- What all trades bring together.
use Rattle.std.proofs.Common.{◌≡◌, ◌∙◌, ℕ, ◌<◌, ℤ, pos, ◌+ℤ◌, ◌-ℤ◌, List, [], ◌∷◌, length, get_or, map, All, refl, sym, arith}
use Rattle.std.specs.List.{zip}
use Rattle.std.proofs.lemmas.Int.{ints}
use Rattle.std.proofs.lemmas.List.Elements.{All-head, All-tail}
use Rattle.mix_num.specs.Shares.{sum_at}
use Rattle.mix_num.specs.Sums.{dot_of, entries}
use Rattle.mix_num.proofs.Costs.{cost-is, cost-of_supply, cost_of, dot-is, dot_plus, dot_same}
use Rattle.mix_text.specs.Auctions.{AuctionText, IsAuction}
use Rattle.mix_answer.specs.Shapes.{HasAnswerShape}
use Rattle.mix_answer.specs.Truths.{bundles_of}
use Rattle.mix_answer.specs.declared.outcome.Answer.{Answer}
use Rattle.mix_answer.specs.declared.share.Share.{Share}
use Rattle.mix_own.specs.Owned.{AreOwned, gross_of, gross_supply}
use Rattle.mix_own.specs.Trades.{net_of, paid, trade_of, trades_of}
use Rattle.mix_own.proofs.GrossSupplies.{gross_at, length-gross}
use Rattle.mix_own.proofs.NetAmounts.{dot_of_net}

-- a bundle of so many goods
abbrev pub IsOver : ℕ → Share → Type 0
IsOver n share = length share.bundle.items ≡ n

-- the trades bring what the bundles cost less what all that is owned would cost
paid_is : (q : List ℤ) (shares : List Share) (owned : List (List ℤ)) → length owned ≡ length shares → All (IsOver (length q)) shares
    → paid (map (λ p. trade_of q p.0 p.1) (zip shares owned)) ≡ cost_of q (map (λ share. share.bundle.items) shares) -ℤ cost_of q owned
paid_is q [] [] e h = refl
paid_is q [] (own ∷ owned) e h = absurd (omega (arith, e))
paid_is q (share ∷ shares) [] e h = absurd (omega (arith, e))
paid_is q (share ∷ shares) (own ∷ owned) e h =
    let here = dot_of_net q share.bundle.items own (sym (All-head (IsOver (length q)) share shares h)) in
    let rest = paid_is q shares owned (omega (arith, e)) (All-tail (IsOver (length q)) share shares h) in
    omega (arith, ints, here, rest)

-- the gross supply costs what the supply does and what all that is owned would cost
gross_cost : (q supply : List ℤ) (owned : List (List ℤ)) → length q ≡ length supply → dot_of q (gross_supply supply owned) ≡ dot_of q supply +ℤ cost_of q owned
gross_cost q supply owned e =
    let g = dot-is q (gross_supply supply owned) in
    let s = dot-is q supply in
    let o = cost-is q owned in
    let same = dot_same (length q) (entries q) (entries (gross_supply supply owned)) (λ i. entries supply i +ℤ sum_at owned i) (λ i l. gross_at supply owned i (omega (arith, l, e))) in
    let more = dot_plus (length q) (entries q) (entries supply) (λ i. sum_at owned i) in
    omega (arith, ints, g, s, o, same, more)

pub receipts_are : (a : AuctionText) → IsAuction a → (owned : List (List ℤ)) → AreOwned a owned → (answer : Answer) → HasAnswerShape a answer
    → ((i : ℕ) → i < length a.goods → sum_at (bundles_of answer) i +ℤ get_or answer.returns.items i (pos 0) ≡ get_or (gross_of a owned).supply i (pos 0))
    → paid (trades_of owned answer) ≡ dot_of answer.prices.items (net_of a.supply answer.returns.items)
unfolding trades_of
receipts_are a s owned o answer h sum =
    let q = answer.prices.items in
    let goods : length a.supply ≡ length a.goods = s.supply.0 in
    let prices : length q ≡ length a.goods = h.prices.0 in
    let gross = length-gross a.supply owned in
    let over : All (IsOver (length q)) answer.shares = λ k d l. (h.shares k d l).bundle.0 ∙ sym prices in
    let trades = paid_is q answer.shares owned (o.count ∙ sym h.count) over in
    let all = cost-of_supply q (gross_supply a.supply owned) (bundles_of answer) answer.returns.items (prices ∙ sym goods ∙ sym gross) (λ i l. sum i (omega (arith, l, gross, goods))) in
    let beside = gross_cost q a.supply owned (prices ∙ sym goods) in
    let sold = dot_of_net q a.supply answer.returns.items (prices ∙ sym goods) in
    omega (arith, ints, trades, all, beside, sold)
