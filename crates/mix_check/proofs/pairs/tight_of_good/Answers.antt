use Rattle.std.proofs.Common.{length, sym, ap, ◌∙◌, subst, refl, w64, of_z, to_z, ℕ}
use Rattle.mix_text.specs.AuctionTexts.{auction_text}
use Rattle.mix_check.specs.Tests.{IsAgainst}
use Rattle.mix_check.specs.declared.reason.Reason.TheVariants.{Tight}
use Rattle.mix_check.proofs.PairNumbers.{is_tight, not_tight, pair-same, word-equal}
use Rattle.mix_check.proofs.pairs.tight_of_good.Goals as goal

pub returns-then-bound-amount_at-clause-reason : goal.returns-then-bound-amount_at-clause-reason
returns-then-bound-amount_at-clause-reason c =
    let bidder = c.bidder_at-bidder.result in
    let right = pair-same (length c.args.auction.now.goods) c.len.result c.args.good c.pair_at.result _ c.len.ensures c.pair_at.ensures.pair (c.is_pair.ensures.0 c.if-not-is_pair.false) in
    let wrong = not_tight (auction_text c.args.auction.now) c.args.answer.now c.args.auction.now.sound c.requires.shape c.args.turn bidder c.args.good c.requires.inside c.bidder_at-bidder.ensures.place
    c.bound_at-bound.result c.bound_at-bound.ensures.value c.bound_at-bound.ensures.range (λ e. c.if-bound-amount_at.true (ap (of_z w64) (e ∙ sym c.amount_at.ensures.value))) in
    subst (λ (k : ℕ). IsAgainst (auction_text c.args.auction.now) c.args.answer.now k c.args.good (Tight bidder c.args.good (to_z w64 (of_z w64 c.bound_at-bound.result)))) c.bidder_at-bidder.ensures.place
    (refl, refl, (c.bidder_at-bidder.ensures.inside, c.requires.good, wrong), right)

pub returns-clause-passed : goal.returns-clause-passed
returns-clause-passed c =
    let right = pair-same (length c.args.auction.now.goods) c.len.result c.args.good c.pair_at.result _ c.len.ensures c.pair_at.ensures.pair (c.is_pair.ensures.0 c.if-not-is_pair.false) in
    let same = word-equal c.bound_at-bound.result c.amount_at.result c.if-bound-amount_at.false c.bound_at-bound.ensures.range c.amount_at.ensures.range ∙ c.amount_at.ensures.value in
    is_tight (auction_text c.args.auction.now) c.args.answer.now c.args.auction.now.sound c.requires.shape c.args.turn c.bidder_at-bidder.result c.args.good c.requires.inside c.bidder_at-bidder.ensures.place
    c.bound_at-bound.result c.bound_at-bound.ensures.value same right
