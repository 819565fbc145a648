use Rattle.std.proofs.lemmas.Result.{IfOk-weaker}
use Rattle.mix_text.specs.AuctionTexts.{auction_text}
use Rattle.mix_answer.proofs.SpelledOutcomes.{outcome_tells, outcome_told}
use Rattle.mix_answer.proofs.reading.read_outcome.Goals as goal

pub returns-clause-lines : goal.returns-clause-lines
returns-clause-lines c =
    IfOk-weaker c.read_rows.result _ _ (λ outcome e. (outcome_told (auction_text c.args.auction.now) c.args.auction.now.sound c.args.rest.now.next c.args.rest.now.rows outcome e).0) c.read_rows.ensures.read

pub returns-clause-shape : goal.returns-clause-shape
returns-clause-shape c =
    IfOk-weaker c.read_rows.result _ _ (λ outcome e. (outcome_told (auction_text c.args.auction.now) c.args.auction.now.sound c.args.rest.now.next c.args.rest.now.rows outcome e).1) c.read_rows.ensures.read

pub returns-clause-printed : goal.returns-clause-printed
returns-clause-printed c = λ outcome shape lines. outcome_tells (auction_text c.args.auction.now) c.args.auction.now.sound c.args.rest.now.next c.args.rest.now.rows outcome shape lines
