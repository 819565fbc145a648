use Rattle.std.proofs.Common.{◌≡◌, ◌+◌, ℕ, List, [], Ok, IfOk, length, refl, subst}
use Rattle.std.proofs.lemmas.Result.{IfOk-weaker}
use Rattle.mix_text.specs.AuctionTexts.{auction_text}
use Rattle.mix_text.specs.Pages.{printed}
use Rattle.mix_text.specs.Reading.{reading_of}
use Rattle.mix_text.specs.Rows.{rows_of}
use Rattle.mix_trial.specs.Printing.{auction_rows}
use Rattle.mix_trial.proofs.PrintedAuctions.{auction_pages}
use Rattle.mix_trial.proofs.ReadAuctions.{reading_text}
use Rattle.mix_trial.proofs.printing.print_auction.Goals as goal

pub returns-clause-text : goal.returns-clause-text
returns-clause-text c =
    let text = auction_pages (auction_text c.args.auction.now) _ _ _ _ _ _ _ _ _ _ _ refl refl c.new-page.ensures c.in_ok-add_head.ensures c.in_ok-add_goods.ensures
    c.in_ok-add_amounts.ensures c.in_ok-add_amounts-2.ensures c.in_ok-add_bidders.ensures c.in_ok-add_caps.ensures c.in_ok-add_order.ensures c.in_ok-add_end.ensures in
    subst (λ (t : List ℕ). IfOk c.finish.result (λ bytes. bytes.items ≡ t)) text c.finish.ensures

pub returns-clause-read : goal.returns-clause-read
returns-clause-read c =
    let a = auction_text c.args.auction.now in
    IfOk-weaker c.finish.result (λ bytes. bytes.items ≡ printed (auction_rows a)) (λ bytes. reading_of (rows_of bytes.items) ≡ Ok (a, record { rows = []; next = length (auction_rows a) + 1 }))
    (λ bytes text. reading_text a bytes.items c.args.auction.now.sound c.requires text) (returns-clause-text c)
