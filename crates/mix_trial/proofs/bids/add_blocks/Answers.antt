use Rattle.std.proofs.Common.{ap, arith, length, length-append}
use Rattle.mix_bids.specs.Bids.{Book}
use Rattle.mix_trial.specs.Trials.{block}
use Rattle.mix_trial.specs.Words.{words_of}
use Rattle.mix_trial.proofs.DrawnTurns.{more_end, more_turn}
use Rattle.mix_trial.proofs.TrialBids.{block_length, same_list}
use Rattle.mix_trial.proofs.bids.add_blocks.Goals as goal

pub loop-block-preserved : goal.loop-block-preserved
loop-block-preserved c =
    let added = c.in_ok-add_block.ensures.added in
    let before = words_of c.loop-block.words in
    let count = ap (λ (l : Book). length l.bids) added in
    record {
      goods = ap (λ (l : Book). l.goods) added;
      count = omega (arith, count, length-append c.loop-block.list.bids (block before).0, block_length before);
      so_far = more_turn (λ _. block) c.loop-block.list.bids c.add_block.new.list.bids 4 c.loop-block._block before (words_of c.add_block.new.words) _ (omega arith)
          (ap (λ (l : Book). l.bids) added) c.in_ok-add_block.ensures.rest c.loop-block.invariant.so_far;
    }

pub returns-clause-added : goal.returns-clause-added
returns-clause-added c =
    let end = more_end (λ _. block) c.loop-block.list.bids 4 c.loop-block._block _ (words_of c.loop-block.words) _ (omega arith) c.loop-block.invariant.so_far in
    same_list c.loop-block.list 5 _ c.loop-block.invariant.goods end.0

pub returns-clause-rest : goal.returns-clause-rest
returns-clause-rest c = (more_end (λ _. block) c.loop-block.list.bids 4 c.loop-block._block _ (words_of c.loop-block.words) _ (omega arith) c.loop-block.invariant.so_far).1
