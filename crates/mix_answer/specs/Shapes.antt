-- Which outcomes have the shape of an auction.
use Rattle.std.specs.Prelude.{◌≡◌, ◌<◌, ◌≤◌, ◌*◌, ◌^◌, ◌≤ℤ◌, ℕ, suc, pos, neg_ℤ, length, All}
use Rattle.mix_num.specs.Ranges.{AreWithin}
use Rattle.mix_num.specs.Sellers.{AreAmounts}
use Rattle.mix_num.specs.declared.pair.Tight.{Tight}
use Rattle.mix_text.specs.Auctions.{AuctionText}
use Rattle.mix_answer.specs.declared.outcome.Answer.{Answer}
use Rattle.mix_answer.specs.declared.outcome.Outcome.{Outcome}
use Rattle.mix_answer.specs.declared.outcome.Outcome.TheVariants.{Cleared, Refused}
use Rattle.mix_answer.specs.declared.refusal.Refusal.{Refusal}
use Rattle.mix_answer.specs.declared.share.Share.{Share}

-- a refusal that an auction could have: of one of its bidders, for two of its choices in order, with a price for each good and a negative weight
pub record FitsAuction (a : AuctionText) (r : Refusal) : Type 0 where
  pub bidder : r.bidder < length a.bidders
  pub order : r.first < r.second
  pub choices : r.second ≤ length a.goods
  pub prices : AreWithin 2000000 (length a.goods) r.prices.items
  pub least : neg_ℤ (pos 4000000) ≤ℤ r.weight
  pub negative : r.weight ≤ℤ neg_ℤ (pos 1)

-- a share of n goods: an amount of each, and a payment from 0 to 10,000,000,000,000
pub record IsShare (n : ℕ) (share : Share) : Type 0 where
  pub bundle : AreAmounts n share.bundle.items
  pub least : pos 0 ≤ℤ share.payment
  pub most : share.payment ≤ℤ pos 10000000000000

-- two sets of choices, the null choice and n goods
abbrev pub AreSets : ℕ → Tight → Type 0
AreSets n tight = (tight.upper < 2 ^ suc n) × (tight.lower < 2 ^ suc n)

-- an answer that an auction could have: a price and a return of each of its goods, a share for each of its bidders, and two sets for each
-- bidder and good
pub record HasAnswerShape (a : AuctionText) (answer : Answer) : Type 0 where
  pub prices : AreAmounts (length a.goods) answer.prices.items
  pub count : length answer.shares ≡ length a.bidders
  pub shares : All (IsShare (length a.goods)) answer.shares
  pub returns : AreAmounts (length a.goods) answer.returns.items
  pub pairs : length answer.tights ≡ length a.bidders * length a.goods
  pub tights : All (AreSets (length a.goods)) answer.tights

-- an outcome that an auction could have
abbrev pub HasShape : AuctionText → Outcome → Type 0
HasShape a (Refused r) = FitsAuction a r
HasShape a (Cleared answer) = HasAnswerShape a answer
