use Rattle.std.proofs.Common.{◌≡◌, ◌++◌, [], map}
use Rattle.mix_num.specs.Orders.{places}
use Rattle.mix_text.specs.AuctionTexts.{auction_text}
use Rattle.mix_text.specs.Pages.{printed}
use Rattle.mix_run.specs.command.Validate.{valid_row}
use Rattle.mix_run.proofs.command.validate.add_all_valid.Given as goal

-- the rows of the bidders so far
abbrev pub invariant-loop-k : goal.invariant-loop-k
invariant-loop-k l = record {
  closed : l.page.fields ≡ [];
  so_far : l.page.ended ≡ l.fn.page.ended ++ printed (map (valid_row (auction_text l.auction)) (places l.k));
}
