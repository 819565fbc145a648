use Rattle.std.proofs.Common.{◌≡◌, ℕ, suc, ◌<◌, ◌^◌, Option, length, sym, ◌∙◌, subst, arith, add-one}
use Rattle.mix_text.specs.AuctionTexts.{auction_text}
use Rattle.mix_text.proofs.TieOrders.{is_order}
use Rattle.mix_num.specs.Orders.{IsOrder, in_order}
use Rattle.mix_num.specs.Tables.{number_of}
use Rattle.mix_answer.specs.Truths.{bundles_of}
use Rattle.mix_check.specs.declared.reason.Reason.{Reason}
use Rattle.mix_check.specs.Tests.{IsFirstFailure, LieWithin, rows_of, spare_at}
use Rattle.mix_check.proofs.FirstFailures.{all_tight, first_reason, no_turn}
use Rattle.mix_check.proofs.Spares.{give-room, take-proper, take-room, turn-at, turn-done, turn-range}
use Rattle.mix_check.proofs.pairs.tight.Goals as goal

pub give_back-requires-clause-range : goal.give_back-requires-clause-range
give_back-requires-clause-range c =
    let l : c.loop-turn.turn < length c.args.auction.now.bidders = omega arith in
    give-room (auction_text c.args.auction.now) c.args.answer.now c.args.tables.now c.args.auction.now.sound c.requires.shape c.requires.tables c.loop-turn.turn c.bidder_at-bidder.result l c.bidder_at-bidder.ensures.place c.index-table.result.now c.index-table.ensures
    c.loop-turn.spare c.loop-turn.invariant.range

pub first_failure-first-requires-clause-turn : goal.first_failure-first-requires-clause-turn
first_failure-first-requires-clause-turn c =
    let l : c.loop-turn.turn < length c.args.auction.now.bidders = omega arith in
    turn-at (auction_text c.args.auction.now) c.args.answer.now c.args.tables.now c.args.auction.now.sound c.requires.shape c.requires.tables c.loop-turn.turn c.bidder_at-bidder.result l c.bidder_at-bidder.ensures.place c.index-table.result.now c.index-table.ensures
    c.loop-turn.spare c.loop-turn.invariant.range c.loop-turn.invariant.spare c.give_back.new.spare c.give_back.ensures.value (c.give_back.ensures.size ∙ c.loop-turn.invariant.size)

pub take-requires-clause-proper : goal.take-requires-clause-proper
take-requires-clause-proper c =
    let l : c.loop-turn.turn < length c.args.auction.now.bidders = omega arith in
    take-proper (auction_text c.args.auction.now) c.args.answer.now c.args.tables.now c.args.auction.now.sound c.requires.shape c.requires.tables c.loop-turn.turn c.bidder_at-bidder.result l c.bidder_at-bidder.ensures.place c.index-table.result.now c.index-table.ensures
    c.loop-turn.spare c.loop-turn.invariant.range c.loop-turn.invariant.spare c.give_back.new.spare c.give_back.ensures.value c.get.result.now c.get.ensures

pub take-requires-clause-range : goal.take-requires-clause-range
take-requires-clause-range c =
    let l : c.loop-turn.turn < length c.args.auction.now.bidders = omega arith in
    take-room (auction_text c.args.auction.now) c.args.answer.now c.args.tables.now c.args.auction.now.sound c.requires.shape c.requires.tables c.loop-turn.turn c.bidder_at-bidder.result l c.bidder_at-bidder.ensures.place c.index-table.result.now c.index-table.ensures
    c.loop-turn.spare c.loop-turn.invariant.range c.loop-turn.invariant.spare c.give_back.new.spare c.give_back.ensures.value c.get.result.now c.get.ensures

pub loop-turn-preserved : goal.loop-turn-preserved
loop-turn-preserved c =
    let l : c.loop-turn.turn < length c.args.auction.now.bidders = omega arith in
    record {
      size = c.take.ensures.size;
      spare = rw add-one
          (turn-done (auction_text c.args.auction.now) c.args.answer.now c.args.tables.now c.args.auction.now.sound c.requires.shape c.requires.tables c.loop-turn.turn c.bidder_at-bidder.result l c.bidder_at-bidder.ensures.place c.index-table.result.now c.index-table.ensures
          c.loop-turn.spare c.loop-turn.invariant.range c.loop-turn.invariant.spare c.give_back.new.spare c.give_back.ensures.value c.get.result.now c.get.ensures c.take.new.spare c.take.ensures.value);
      range = turn-range (auction_text c.args.auction.now) c.args.answer.now c.args.tables.now c.args.auction.now.sound c.requires.shape c.requires.tables c.loop-turn.turn c.bidder_at-bidder.result l c.bidder_at-bidder.ensures.place c.index-table.result.now c.index-table.ensures
          c.loop-turn.spare c.loop-turn.invariant.range c.loop-turn.invariant.spare c.give_back.new.spare c.give_back.ensures.value c.get.result.now c.get.ensures c.take.new.spare c.take.ensures.near;
      first = c.first_failure-first.ensures;
    }

pub loop-turn-init : goal.loop-turn-init
loop-turn-init c =
    let a = auction_text c.args.auction.now in
    let sound = c.args.auction.now.sound in
    let ordered = subst (λ (m : ℕ). IsOrder m a.order) (sym c.requires.tables.bidders.count) (is_order (length a.bidders) a.order sound.order) in
    record {
      size = c.start.ensures.size;
      spare = subst (λ (n : ℕ). (set : ℕ) → set < 2 ^ suc n → number_of c.start.new.spare set ≡ spare_at n (rows_of a.order c.args.tables.now) a.supply (in_order a.order (bundles_of c.args.answer.now)) 0 set)
          sound.supply.0 (c.start.ensures.value a.order ordered);
      range = subst (λ (n : ℕ). LieWithin n 9000000000 c.start.new.spare) sound.supply.0 c.start.ensures.range;
      first = no_turn a c.args.answer.now c.count.result (omega (arith, c.count.ensures.value));
    }

pub returns-in-Some-clause-reason : goal.returns-in-Some-clause-reason
returns-in-Some-clause-reason c =
    let a = auction_text c.args.auction.now in
    let first = c.loop-turn.first in
    let done = subst (λ (reason : Option Reason). IsFirstFailure a c.args.answer.now c.loop-turn.turn (record { bidder = first.bidder; reason = reason })) c.in-Some.is c.loop-turn.invariant.first in
    rw c.in-Some.reason-is (first_reason a c.args.answer.now c.args.auction.now.sound c.requires.shape c.loop-turn.turn (omega (arith, c.count-turn-end.ensures.value)) first.bidder c.in-Some.reason done c.requires.before)

pub returns-in-None-clause-passed : goal.returns-in-None-clause-passed
returns-in-None-clause-passed c = all_tight (auction_text c.args.auction.now) c.args.answer.now c.args.auction.now.sound c.requires.shape c.loop-turn.turn (omega (arith, c.count-turn-end.ensures.value)) c.loop-turn.first c.loop-turn.invariant.first c.in-None.is
