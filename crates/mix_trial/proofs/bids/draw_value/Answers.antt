use Rattle.std.proofs.Common.{◌≢◌, ◌∙◌, arith}
use Rattle.std.proofs.lemmas.Bool.Decides.{nat_tests}
use Rattle.mix_trial.specs.Words.{words_of}
use Rattle.mix_trial.proofs.TrialBids.{value_rest, value_some}
use Rattle.mix_trial.proofs.bids.draw_value.Goals as goal

pub returns-clause-value : goal.returns-clause-value
returns-clause-value c =
    let other : c.draw.result ≢ 0 = grind (arith, nat_tests) in
    c.offered.ensures ∙ value_some (words_of c.args.words.now) (words_of c.draw.new.words) c.draw.result c.draw-2.result c.draw.ensures.value other c.draw.ensures.rest c.draw-2.ensures.value

pub returns-clause-rest : goal.returns-clause-rest
returns-clause-rest c =
    let other : c.draw.result ≢ 0 = grind (arith, nat_tests) in
    c.draw-2.ensures.rest ∙ value_rest (words_of c.args.words.now) (words_of c.draw.new.words) c.draw.result c.draw.ensures.value other c.draw.ensures.rest
