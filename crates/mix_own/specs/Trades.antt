-- What the bidders trade: the difference between what they get and what they own.
use Rattle.std.specs.Prelude.{ℕ, ℤ, pos, neg_ℤ, ◌+ℤ◌, ◌-ℤ◌, ◌≤ℤ◌, List, [], ◌∷◌, length, get_or, map}
use Rattle.std.specs.List.{zip}
use Rattle.mix_num.specs.Orders.{places}
use Rattle.mix_num.specs.Ranges.{AreWithin}
use Rattle.mix_num.specs.Sums.{dot_of}
use Rattle.mix_answer.specs.declared.outcome.Answer.{Answer}
use Rattle.mix_answer.specs.declared.share.Share.{Share}
use Rattle.mix_own.specs.declared.trade.Trade.{Trade}

-- good by good the bundle less what is owned
unfoldable pub net_of : List ℤ → List ℤ → List ℤ
net_of bundle owned = map (λ i. get_or bundle i (pos 0) -ℤ get_or owned i (pos 0)) (places (length bundle))

-- the trade of a bidder that gets a share and owns this: the net amounts, and price times these
abbrev pub trade_of : List ℤ → Share → List ℤ → Trade
trade_of prices share owned =
    let net = net_of share.bundle.items owned in
    record { net = record { items = net }; payment = dot_of prices net }

-- the trade of each bidder, in order of the shares
unfoldable pub trades_of : List (List ℤ) → Answer → List Trade
trades_of owned answer = map (λ p. trade_of answer.prices.items p.0 p.1) (zip answer.shares owned)

-- a trade of n goods: of each from -1,000,000 to 1,000,000, and a payment from -10,000,000,000,000 to 10,000,000,000,000
pub record IsTrade (n : ℕ) (trade : Trade) : Type 0 where
  pub net : AreWithin 1000000 n trade.net.items
  pub least : neg_ℤ (pos 10000000000000) ≤ℤ trade.payment
  pub most : trade.payment ≤ℤ pos 10000000000000

-- what all trades bring
abbrev pub paid : List Trade → ℤ
paid [] = pos 0
paid (trade ∷ trades) = trade.payment +ℤ paid trades
