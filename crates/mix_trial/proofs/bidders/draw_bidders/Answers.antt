use Rattle.std.proofs.Common.{◌∙◌, arith, suc}
use Rattle.mix_trial.specs.Trials.{bidder}
use Rattle.mix_trial.specs.Words.{words_of}
use Rattle.mix_trial.proofs.DrawnTurns.{more_end, more_turn}
use Rattle.mix_trial.proofs.TrialNames.{absent, entry_is, none_later}
use Rattle.mix_trial.proofs.bidders.draw_bidders.Goals as goal

pub add-requires : goal.add-requires
add-requires c = absent c.loop-place.place c.bidder_name.result.bytes c.loop-place.bidders c.bidder_name.ensures (c.loop-place.invariant.later (suc c.loop-place.place) (omega arith))

pub loop-place-preserved : goal.loop-place-preserved
loop-place-preserved c =
    let before = words_of c.loop-place.words in
    let added = c.in_ok-add.ensures.ok ∙ entry_is c.loop-place.place c.loop-place.bidders c.bidder_name.result.bytes _ before c.bidder_name.ensures c.in_ok-list.ensures.value in
    record {
      so_far = more_turn bidder c.loop-place.bidders c.add.new.self 40 c.loop-place.place before (words_of c.draw_bids.new.words) _ (omega arith) added c.in_ok-list.ensures.rest c.loop-place.invariant.so_far;
      later = λ k h. none_later c.loop-place.place k c.loop-place.bidders c.add.new.self before added (omega arith) (c.loop-place.invariant.later k (omega arith));
    }

pub returns-clause-value : goal.returns-clause-value
returns-clause-value c = (more_end bidder c.loop-place.bidders 40 c.loop-place.place _ (words_of c.loop-place.words) _ (omega arith) c.loop-place.invariant.so_far).0

pub returns-clause-rest : goal.returns-clause-rest
returns-clause-rest c = (more_end bidder c.loop-place.bidders 40 c.loop-place.place _ (words_of c.loop-place.words) _ (omega arith) c.loop-place.invariant.so_far).1
