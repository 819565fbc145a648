use Rattle.std.proofs.Common.{◌≡◌, Ok}
use Rattle.std.proofs.lemmas.Result.{IfOk-weaker}
use Rattle.mix_text.specs.AuctionTexts.{auction_text}
use Rattle.mix_run.specs.command.Check.{auction_and_outcome}
use Rattle.mix_run.proofs.FormerFormats.{format_read}
use Rattle.mix_run.proofs.command.upgrade.read_upgradable.Goals as goal

pub returns-clause-format : goal.returns-clause-format
returns-clause-format c = IfOk-weaker c.read_both.result (λ both. auction_and_outcome c.args.text.now ≡ Ok (auction_text both.0, both.1)) (λ both. both.0.format ≡ 1)
    (λ both read. format_read c.args.text.now (auction_text both.0) both.1 c.in_ok-read_format.ensures.read read) c.read_both.ensures.read
