use Rattle.std.proofs.Common.{◌∙◌, ap, arith, ◌++◌, ◌∷◌, [], List, length-append, to_z-of_z, rules, SFits, w64}
use Rattle.std.proofs.Common.{ℤ, length}
use Rattle.mix_trial.specs.Trials.{amount}
use Rattle.mix_trial.specs.Draws.{alone}
use Rattle.mix_trial.specs.Words.{words_of}
use Rattle.mix_trial.proofs.DrawnTurns.{more_end, more_turn}
use Rattle.mix_trial.proofs.draws.draw_amounts.Goals as goal

pub loop-good-preserved : goal.loop-good-preserved
loop-good-preserved c =
    let done = c.loop-good.amounts.items in
    let range = c.draw_amount.ensures.range in
    let fits : SFits w64 c.draw_amount.result = search rules in
    let items = simp to_z-of_z at c.push.ensures.items in
    let count = ap (λ (z : List ℤ). length z) items in
    record {
      count = omega (arith, count, length-append done (c.draw_amount.result ∷ []));
      so_far = more_turn (λ _. alone (amount c.args.low c.args.below)) done c.push.new.self.items 5 c.loop-good._good (words_of c.loop-good.words) (words_of c.draw_amount.new.words) _ (omega arith)
          (items ∙ ap (λ (x : ℤ). done ++ (x ∷ [])) c.draw_amount.ensures.value) c.draw_amount.ensures.rest c.loop-good.invariant.so_far;
    }

pub returns-clause-value : goal.returns-clause-value
returns-clause-value c = (more_end (λ _. alone (amount c.args.low c.args.below)) c.loop-good.amounts.items 5 c.loop-good._good _ (words_of c.loop-good.words) _ (omega arith) c.loop-good.invariant.so_far).0

pub returns-clause-rest : goal.returns-clause-rest
returns-clause-rest c = (more_end (λ _. alone (amount c.args.low c.args.below)) c.loop-good.amounts.items 5 c.loop-good._good _ (words_of c.loop-good.words) _ (omega arith) c.loop-good.invariant.so_far).1
