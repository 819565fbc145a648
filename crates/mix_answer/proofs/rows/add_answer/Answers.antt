use Rattle.std.proofs.Common.{◌≡◌, ℕ, List, [], OnOk, subst}
use Rattle.mix_text.specs.AuctionTexts.{auction_text}
use Rattle.mix_answer.proofs.PrintedAnswers.{answer_pages}
use Rattle.mix_answer.proofs.rows.add_answer.Goals as goal

pub returns : goal.returns
returns c =
    let text = answer_pages c.args.page.now.ended (auction_text c.args.auction.now) c.args.answer.now _ _ _ _
    c.in_ok-add_cleared.ensures c.in_ok-add_amounts.ensures c.in_ok-add_shares.ensures c.in_ok-add_amounts-2.ensures in
    subst (λ (t : List ℕ). OnOk c.add_tights.result (c.add_tights.new.page ≡ record { ended = t; fields = [] })) text c.add_tights.ensures
