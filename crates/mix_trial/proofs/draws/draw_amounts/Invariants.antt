use Rattle.std.proofs.Common.{◌≡◌, ◌-◌, suc, length}
use Rattle.mix_trial.specs.Draws.{alone, for_each}
use Rattle.mix_trial.specs.Trials.{amount}
use Rattle.mix_trial.specs.Words.{words_of}
use Rattle.mix_trial.proofs.DrawnTurns.{more}
use Rattle.mix_trial.proofs.draws.draw_amounts.Given as goal

-- the amounts so far, and those drawn from here on, are all of them
abbrev pub invariant-loop-good : goal.invariant-loop-good
invariant-loop-good l = record {
  count : length l.amounts.items ≡ l._good;
  so_far : more (λ _. alone (amount l.low l.below)) l.amounts.items (5 - l._good) (suc l._good) (words_of l.words) ≡ for_each 5 1 (λ _. alone (amount l.low l.below)) (words_of l.fn.words);
}
