use Rattle.std.proofs.Common.{◌≡◌, ◌∙◌, ◌<◌, ◌≤◌, ◌+◌, ◌*◌, ℕ, ap, refl, drop, length, arith, Ok}
use Rattle.std.proofs.lemmas.Result.{err_from_is_err_and}
use Rattle.mix_answer.proofs.FirstRows.{bidder_more, bidder_wrong, bidders_last}
use Rattle.mix_answer.proofs.reading.read_tights.Goals as goal

-- the row after those of the bidders before the next
next_place : (first k n goods : ℕ) → goods ≡ n → first + k * goods + n ≡ first + (k + 1) * n
next_place first k n goods e = rw e (omega arith)

pub returns-in_err-read_bidder_tights-clause-wrong : goal.returns-in_err-read_bidder_tights-clause-wrong
returns-in_err-read_bidder_tights-clause-wrong c =
    let here : c.loop-k.k < length c.args.auction.now.bidders = omega (arith, c.count-k-end.ensures.value, c.loop-k-test.true) in
    let own = rw c.len-goods.ensures at c.in_err-read_bidder_tights.ensures.wrong in
    let p = err_from_is_err_and c.from_residual.result c.from_residual.ensures.1 in
    rw (p.1, p.2) (bidder_wrong c.args.rest.now.next c.args.auction.now.goods c.args.auction.now.bidders c.loop-k.tights _ c.loop-k.k _ _ here own c.loop-k.invariant.so_far)

pub loop-k-preserved : goal.loop-k-preserved
loop-k-preserved c =
    let here : c.loop-k.k < length c.args.auction.now.bidders = omega (arith, c.count-k-end.ensures.value, c.loop-k-test.true) in
    let n = length c.args.auction.now.goods in
    let place = next_place c.args.first c.loop-k.k n n refl in
    let own = rw c.len-goods.ensures at c.in_ok-read_bidder_tights.ensures.read in
    record {
      so_far = bidder_more c.args.rest.now.next c.args.auction.now.goods c.args.auction.now.bidders c.loop-k.tights c.read_bidder_tights.new.tights _ _ c.loop-k.k _ here (rw place at own) c.loop-k.invariant.so_far;
    }

pub returns-clause-read : goal.returns-clause-read
returns-clause-read c =
    let end : c.loop-k.k ≡ length c.args.auction.now.bidders = omega (arith, c.count-k-end.ensures.value, c.loop-k-test.false, c.loop-k.auto.k-end) in
    let below : length c.args.auction.now.bidders ≤ c.loop-k.k = omega (arith, end) in
    bidders_last c.args.rest.now.next c.args.auction.now.goods c.args.auction.now.bidders c.loop-k.tights _ c.loop-k.k _ below c.loop-k.invariant.so_far
    ∙ ap (λ (k : ℕ). Ok (c.loop-k.tights, drop (c.args.first + k * length c.args.auction.now.goods) c.args.rest.now.rows)) end
