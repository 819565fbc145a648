use Rattle.std.proofs.Common.{◌≡◌, ◌<◌, List, ℤ, length, below_more, sym, ap, ◌∙◌, arith, w64, to_z, of_z}
use Rattle.std.proofs.lemmas.Int.{ints}
use Rattle.mix_num.specs.Sums.{dot_of}
use Rattle.mix_text.specs.AuctionTexts.{auction_text}
use Rattle.mix_answer.specs.declared.share.Share.{Share}
use Rattle.mix_check.proofs.AuctionFacts.{bundle-at, payment-at, share-at}
use Rattle.mix_check.proofs.FirstReasons.{pay_first}
use Rattle.mix_check.proofs.bundles.paid.Goals as goal

pub loop-bidder-preserved : goal.loop-bidder-preserved
loop-bidder-preserved c =
    let share : Share = c.get-share.result.now in
    let lt : c.loop-bidder.bidder < length c.args.auction.now.bidders = omega arith in
    let read : share ≡ _ = c.get-share.ensures in
    let is = rw (← read) at (share-at (auction_text c.args.auction.now) c.args.answer.now c.requires.shape c.loop-bidder.bidder share lt) in
    let bundle = bundle-at (auction_text c.args.auction.now) c.args.answer.now c.requires.shape c.loop-bidder.bidder share lt ∙ ap (λ (s : Share). s.bundle.items) (sym read) in
    let payment = payment-at (auction_text c.args.auction.now) c.args.answer.now c.requires.shape c.loop-bidder.bidder share lt ∙ ap (λ (s : Share). s.payment) (sym read) in
    let same = ap (to_z w64) c.if-share-amount.false in
    let cost = ap (λ (b : List ℤ). dot_of c.args.answer.now.prices.items b) bundle in
    let value = c.pay-amount.ensures.value in
    let range = c.pay-amount.ensures.range in
    let low = is.least in
    let high = is.most in
    below_more _ _ c.loop-bidder.invariant (omega (arith, ints, payment, same, cost, value, range, low, high))

pub returns-then-share-amount-clause-reason : goal.returns-then-share-amount-clause-reason
returns-then-share-amount-clause-reason c =
    let share : Share = c.get-share.result.now in
    let lt : c.loop-bidder.bidder < length c.args.auction.now.bidders = omega arith in
    let read : share ≡ _ = c.get-share.ensures in
    let bundle = bundle-at (auction_text c.args.auction.now) c.args.answer.now c.requires.shape c.loop-bidder.bidder share lt ∙ ap (λ (s : Share). s.bundle.items) (sym read) in
    let payment = payment-at (auction_text c.args.auction.now) c.args.answer.now c.requires.shape c.loop-bidder.bidder share lt ∙ ap (λ (s : Share). s.payment) (sym read) in
    let cost = ap (λ (b : List ℤ). dot_of c.args.answer.now.prices.items b) bundle in
    let range = c.pay-amount.ensures.range in
    let word : to_z w64 (of_z w64 c.pay-amount.result) ≡ c.pay-amount.result = omega (arith, ints, range) in
    rw word (pay_first (auction_text c.args.auction.now) c.args.answer.now c.loop-bidder.bidder c.pay-amount.result c.requires.before lt (c.pay-amount.ensures.value ∙ sym cost)
    (λ e. c.if-share-amount.true (ap (of_z w64) (sym payment ∙ e))) c.loop-bidder.invariant)
