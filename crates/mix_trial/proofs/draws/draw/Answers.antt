use Rattle.std.proofs.Common.{ap}
use Rattle.mix_trial.proofs.GeneratorWords.{later_words}
use Rattle.mix_trial.proofs.draws.draw.Goals as goal

pub returns-clause-rest : goal.returns-clause-rest
returns-clause-rest c = later_words c.args.words.now c.next_word.new.self (ap (λ p. p.1) c.next_word.ensures)
