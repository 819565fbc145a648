use Rattle.mix_text.specs.AuctionTexts.{auction_text}
use Rattle.mix_answer.specs.declared.outcome.Outcome.TheVariants.{Cleared, Refused}
use Rattle.mix_check.proofs.VerdictFacts.{result_exact, result_fair, result_least, result_worth}
use Rattle.mix_check.proofs.checking.check.Goals as goal

pub returns-in-Refused-clause-exact : goal.returns-in-Refused-clause-exact
returns-in-Refused-clause-exact c = result_exact (auction_text c.args.auction.now) c.args.outcome.now (Refused c.in-Refused.refusal) c.check_refusal.result c.in-Refused.is c.check_refusal.ensures

pub returns-in-Cleared-clause-exact : goal.returns-in-Cleared-clause-exact
returns-in-Cleared-clause-exact c = result_exact (auction_text c.args.auction.now) c.args.outcome.now (Cleared c.in-Cleared.answer) c.check_answer.result c.in-Cleared.is c.check_answer.ensures

pub returns-in-Cleared-clause-worth : goal.returns-in-Cleared-clause-worth
returns-in-Cleared-clause-worth c = result_worth (auction_text c.args.auction.now) c.args.outcome.now (Cleared c.in-Cleared.answer) c.check_answer.result c.in-Cleared.is c.check_answer.ensures c.args.auction.now.sound

pub returns-in-Cleared-clause-fractions : goal.returns-in-Cleared-clause-fractions
returns-in-Cleared-clause-fractions c = result_least (auction_text c.args.auction.now) c.args.outcome.now (Cleared c.in-Cleared.answer) c.check_answer.result c.in-Cleared.is c.check_answer.ensures c.args.auction.now.sound

pub returns-in-Cleared-clause-fair : goal.returns-in-Cleared-clause-fair
returns-in-Cleared-clause-fair c = result_fair (auction_text c.args.auction.now) c.args.outcome.now (Cleared c.in-Cleared.answer) c.check_answer.result c.in-Cleared.is c.check_answer.ensures c.args.auction.now.sound
