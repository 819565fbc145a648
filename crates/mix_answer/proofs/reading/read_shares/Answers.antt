use Rattle.std.proofs.Common.{◌<◌, length, arith, inr}
use Rattle.std.proofs.lemmas.Result.{err_from_is_err_and}
use Rattle.mix_answer.proofs.FirstRows.{share_more, share_wrong, shares_read, turn_last}
use Rattle.mix_answer.proofs.reading.read_shares.Goals as goal

pub returns-in_err-share-clause-wrong : goal.returns-in_err-share-clause-wrong
returns-in_err-share-clause-wrong c =
    let here : c.loop-k.k < length c.args.auction.now.bidders = omega (arith, c.count-k-end.ensures.value, c.loop-k-test.true) in
    let own = rw (c.len-goods.ensures, c.bidder.ensures.name) at c.in_err-share.ensures.wrong in
    let p = err_from_is_err_and c.from_residual.result c.from_residual.ensures.1 in
    rw (p.1, p.2) (inr (share_wrong c.args.rest.now.next (length c.args.auction.now.goods) c.loop-k.shares c.args.auction.now.bidders c.args.rest.now.rows c.args.first c.loop-k.k _ _ here own c.loop-k.invariant.so_far))

pub loop-k-preserved : goal.loop-k-preserved
loop-k-preserved c =
    let here : c.loop-k.k < length c.args.auction.now.bidders = omega (arith, c.count-k-end.ensures.value, c.loop-k-test.true) in
    let own = rw (c.len-goods.ensures, c.bidder.ensures.name) at c.in_ok-share.ensures.read in
    record {
      so_far = rw c.in-Ok.ensures.ok (share_more c.args.rest.now.next (length c.args.auction.now.goods) c.loop-k.shares c.args.auction.now.bidders c.args.rest.now.rows c.args.first c.loop-k.k _ c.in_ok-share.share here own c.loop-k.invariant.so_far);
    }

pub returns-clause-read : goal.returns-clause-read
returns-clause-read c =
    turn_last c.args.rest.now.next (shares_read (length c.args.auction.now.goods)) c.loop-k.shares c.args.auction.now.bidders c.args.rest.now.rows c.args.first c.loop-k.k _
    (omega (arith, c.count-k-end.ensures.value, c.loop-k-test.false, c.loop-k.auto.k-end)) c.loop-k.invariant.so_far
