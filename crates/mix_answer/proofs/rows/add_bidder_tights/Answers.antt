use Rattle.std.proofs.Common.{◌*◌, arith, length}
use Rattle.mix_text.specs.Bidders.{name_at}
use Rattle.mix_answer.proofs.PrintedAnswers.{bidder_end}
use Rattle.mix_answer.proofs.rows.add_bidder_tights.Goals as goal

pub returns : goal.returns
returns c =
    let goods = c.args.auction.now.goods in
    bidder_end c.loop-j.page _ goods (name_at c.args.auction.now.bidders c.args.k) c.args.tights.now (c.args.k * length goods) c.loop-j.j
    (omega (arith, c.len-j-end.ensures, c.loop-j-test.false)) c.loop-j.invariant.open_row c.loop-j.invariant.so_far
