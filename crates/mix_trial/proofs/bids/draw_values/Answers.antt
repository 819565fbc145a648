use Rattle.std.proofs.Common.{◌∙◌, ap, arith, ◌++◌, ◌∷◌, [], List, length-append}
use Rattle.std.proofs.Common.{ℤ, Option, length}
use Rattle.mix_trial.specs.Trials.{value}
use Rattle.mix_trial.specs.Draws.{alone}
use Rattle.mix_trial.specs.Words.{words_of}
use Rattle.mix_trial.proofs.DrawnTurns.{more_end, more_turn}
use Rattle.mix_trial.proofs.bids.draw_values.Goals as goal

pub loop-good-preserved : goal.loop-good-preserved
loop-good-preserved c =
    let done = c.loop-good.values.items in
    let count = ap (λ (z : List (Option ℤ)). length z) c.push.ensures.items in
    record {
      count = omega (arith, count, length-append done (c.draw_value.result ∷ []));
      so_far = more_turn (λ _. alone value) done c.push.new.self.items 5 c.loop-good._good (words_of c.loop-good.words) (words_of c.draw_value.new.words) _ (omega arith)
          (c.push.ensures.items ∙ ap (λ (x : (Option ℤ)). done ++ (x ∷ [])) c.draw_value.ensures.value) c.draw_value.ensures.rest c.loop-good.invariant.so_far;
    }

pub returns-clause-value : goal.returns-clause-value
returns-clause-value c = (more_end (λ _. alone value) c.loop-good.values.items 5 c.loop-good._good _ (words_of c.loop-good.words) _ (omega arith) c.loop-good.invariant.so_far).0

pub returns-clause-rest : goal.returns-clause-rest
returns-clause-rest c = (more_end (λ _. alone value) c.loop-good.values.items 5 c.loop-good._good _ (words_of c.loop-good.words) _ (omega arith) c.loop-good.invariant.so_far).1
