use Rattle.std.proofs.Common.{◌≡◌, refl, subst, ℕ}
use Rattle.mix_bids.specs.Bids.{IsBid}
use Rattle.mix_bids.specs.declared.bid.Bid.{Bid}
use Rattle.mix_text.specs.AuctionTexts.{auction_text}
use Rattle.mix_text.proofs.ChangedAuctions.{added_auction}
use Rattle.mix_text.proofs.changes_tests.add.Goals as goal

over : (m n : ℕ) (bid : Bid) → m ≡ n → IsBid m bid → IsBid n bid
over m n bid e is = subst (λ (k : ℕ). IsBid k bid) e is

pub add_bid-requires-clause-keeps : goal.add_bid-requires-clause-keeps
add_bid-requires-clause-keeps c =
    added_auction (auction_text c.args.auction.now) _ _ c.args.auction.now.sound c.in-Some.ensures.name (over _ _ _ c.len.ensures c.in-Some.ensures.bid) (c.if-not-may_add.ensures.cap refl) (c.if-not-may_add.ensures.limit refl)
