use Rattle.std.proofs.Common.{◌<◌, length, arith, inr}
use Rattle.std.proofs.lemmas.Result.{err_from_is_err_and}
use Rattle.mix_text.specs.Bidders.{name_at}
use Rattle.mix_answer.proofs.FirstRows.{pair_more, pair_wrong, pairs_last, wrong_alone}
use Rattle.mix_answer.proofs.reading.read_bidder_tights.Goals as goal

pub returns-in_err-tight-clause-wrong : goal.returns-in_err-tight-clause-wrong
returns-in_err-tight-clause-wrong c =
    let here : c.loop-j.j < length c.args.auction.now.goods = omega (arith, c.len-goods.ensures, c.loop-j-test.true) in
    let own = rw (c.len-goods.ensures, c.bidder.ensures.name, c.get.ensures) at c.in_err-tight.ensures.wrong in
    let p = err_from_is_err_and c.from_residual.result c.from_residual.ensures.1 in
    rw (p.1, p.2) (inr (wrong_alone c.args.tights.now _ _
    (pair_wrong c.args.rest.now.next (length c.args.auction.now.goods) c.args.auction.now.goods (name_at c.args.auction.now.bidders c.args.k) c.loop-j.tights c.args.rest.now.rows c.args.first c.loop-j.j _ _ here own c.loop-j.invariant.so_far)))

pub loop-j-preserved : goal.loop-j-preserved
loop-j-preserved c =
    let here : c.loop-j.j < length c.args.auction.now.goods = omega (arith, c.len-goods.ensures, c.loop-j-test.true) in
    let own = rw (c.len-goods.ensures, c.bidder.ensures.name, c.get.ensures) at c.in_ok-tight.ensures.read in
    record {
      so_far = rw c.in-Ok.ensures.ok
          (pair_more c.args.rest.now.next (length c.args.auction.now.goods) c.args.auction.now.goods (name_at c.args.auction.now.bidders c.args.k) c.loop-j.tights c.args.rest.now.rows c.args.first c.loop-j.j _ c.in_ok-tight.tight here own c.loop-j.invariant.so_far);
    }

pub returns-clause-read : goal.returns-clause-read
returns-clause-read c =
    pairs_last c.args.rest.now.next (length c.args.auction.now.goods) c.args.auction.now.goods (name_at c.args.auction.now.bidders c.args.k) c.loop-j.tights c.args.rest.now.rows c.args.first c.loop-j.j _
    (omega (arith, c.len-goods.ensures, c.loop-j-test.false, c.loop-j.auto.j-end)) c.loop-j.invariant.so_far
