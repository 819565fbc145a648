use Rattle.std.proofs.Common.{◌∙◌, ap, arith, ◌++◌, ◌∷◌, [], length, length-append}
use Rattle.mix_bids.specs.Bids.{Book}
use Rattle.mix_bids.specs.declared.bid.Bid.{Bid}
use Rattle.mix_trial.specs.Draws.{alone}
use Rattle.mix_trial.specs.Trials.{single}
use Rattle.mix_trial.specs.Words.{words_of}
use Rattle.mix_trial.proofs.DrawnTurns.{more_end, more_turn}
use Rattle.mix_trial.proofs.TrialBids.{same_list}
use Rattle.mix_trial.proofs.bids.add_singles.Goals as goal

pub loop-bid-preserved : goal.loop-bid-preserved
loop-bid-preserved c =
    let done = c.loop-bid.list.bids in
    let added = c.in_ok-add.ensures in
    let count = ap (λ (l : Book). length l.bids) added in
    record {
      goods = ap (λ (l : Book). l.goods) added;
      count = omega (arith, count, length-append done (c.draw_single.result ∷ []));
      so_far = more_turn (λ _. alone single) done c.add.new.list.bids 16 c.loop-bid._bid (words_of c.loop-bid.words) (words_of c.draw_single.new.words) _ (omega arith)
          (ap (λ (l : Book). l.bids) added ∙ ap (λ (x : Bid). done ++ (x ∷ [])) c.draw_single.ensures.value) c.draw_single.ensures.rest c.loop-bid.invariant.so_far;
    }

pub returns-clause-added : goal.returns-clause-added
returns-clause-added c =
    let end = more_end (λ _. alone single) c.loop-bid.list.bids 16 c.loop-bid._bid _ (words_of c.loop-bid.words) _ (omega arith) c.loop-bid.invariant.so_far in
    same_list c.loop-bid.list 5 _ c.loop-bid.invariant.goods end.0

pub returns-clause-rest : goal.returns-clause-rest
returns-clause-rest c = (more_end (λ _. alone single) c.loop-bid.list.bids 16 c.loop-bid._bid _ (words_of c.loop-bid.words) _ (omega arith) c.loop-bid.invariant.so_far).1
