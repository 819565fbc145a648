use Rattle.std.proofs.Common.{◌≡◌, ◌+◌, ◌-◌, suc, length}
use Rattle.mix_trial.specs.Draws.{alone}
use Rattle.mix_trial.specs.Trials.{single}
use Rattle.mix_trial.specs.Words.{words_of}
use Rattle.mix_trial.proofs.DrawnTurns.{more}
use Rattle.mix_trial.proofs.bids.add_singles.Given as goal

-- the bids so far, and those drawn from here on, are all of them
abbrev pub invariant-loop-bid : goal.invariant-loop-bid
invariant-loop-bid l = record {
  goods : l.list.goods ≡ 5;
  count : length l.list.bids ≡ 16 + l._bid;
  so_far : more (λ _. alone single) l.list.bids (16 - l._bid) (suc l._bid) (words_of l.words) ≡ more (λ _. alone single) l.fn.list.bids 16 1 (words_of l.fn.words);
}
