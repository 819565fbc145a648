use Rattle.std.proofs.Common.{◌++◌, ◌∙◌, ℕ, List, ap}
use Rattle.mix_text.specs.AuctionTexts.{auction_text}
use Rattle.mix_text.specs.Pages.{line_of}
use Rattle.mix_run.specs.command.Utility.{utility_row}
use Rattle.mix_run.proofs.PlacedRows.{one_more_row}
use Rattle.mix_run.proofs.command.utility.add_utilities.Goals as goal

-- one more row
pub loop-k-preserved : goal.loop-k-preserved
loop-k-preserved c =
    let row = utility_row (auction_text c.args.auction.now) c.args.prices.now.items in
    let added = c.in_ok-add_utility.ensures in
    record {
      closed = ap (λ page. page.fields) added;
      so_far = ap (λ page. page.ended) added ∙ ap (λ (t : List ℕ). t ++ line_of (row c.loop-k.k)) c.loop-k.invariant.so_far ∙ one_more_row row c.loop-k.k c.args.page.now.ended;
    }
