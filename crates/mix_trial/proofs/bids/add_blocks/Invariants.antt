use Rattle.std.proofs.Common.{◌≡◌, ◌-◌, ◌*◌, suc, length}
use Rattle.mix_trial.specs.Draws.{for_each}
use Rattle.mix_trial.specs.Trials.{block}
use Rattle.mix_trial.specs.Words.{words_of}
use Rattle.mix_trial.proofs.DrawnTurns.{more}
use Rattle.mix_trial.proofs.bids.add_blocks.Given as goal

-- the bids so far, and those of the blocks drawn from here on, are all of them
abbrev pub invariant-loop-block : goal.invariant-loop-block
invariant-loop-block l = record {
  goods : l.list.goods ≡ 5;
  count : length l.list.bids ≡ l._block * 4;
  so_far : more (λ _. block) l.list.bids (4 - l._block) (suc l._block) (words_of l.words) ≡ for_each 4 1 (λ _. block) (words_of l.fn.words);
}
