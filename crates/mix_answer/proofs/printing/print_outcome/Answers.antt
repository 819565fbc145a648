use Rattle.std.proofs.Common.{◌≡◌, ℕ, List, IfOk, subst}
use Rattle.mix_text.specs.AuctionTexts.{auction_text}
use Rattle.mix_answer.proofs.PrintedAnswers.{outcome_pages}
use Rattle.mix_answer.proofs.printing.print_outcome.Goals as goal

pub returns : goal.returns
returns c =
    let text = outcome_pages (auction_text c.args.auction.now) c.args.outcome.now _ _ _ _ _ c.new-page.ensures
    c.in_ok-add_head.ensures c.in_ok-add_order.ensures c.in_ok-add_inner.ensures c.in_ok-add_end.ensures in
    subst (λ (t : List ℕ). IfOk c.finish.result (λ bytes. bytes.items ≡ t)) text c.finish.ensures
