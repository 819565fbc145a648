use Rattle.std.proofs.Common.{◌++◌, ◌∷◌, [], arith, ap, subst, sym}
use Rattle.mix_text.specs.Bidders.{Named, bidder_at, list_at}
use Rattle.mix_run.specs.command.Compare.{AreRowsOf}
use Rattle.mix_run.proofs.ComparedRows.{bidders_more, page_more, rows_more}
use Rattle.mix_run.proofs.command.compare.add_all_compared.Goals as goal

pub loop-k-preserved : goal.loop-k-preserved
loop-k-preserved c =
    let bidders = c.args.auction.now.bidders in
    let first = list_at bidders 0 in
    let k = c.loop-k.k in
    let so_far = c.loop-k.invariant.so_far in
    let added = c.in_ok-add_compared.ensures in
    let more = bidders_more bidders k (omega arith) (omega (arith, c.loop-k-test.true, c.count-k-end.ensures.value)) in
    record {
      closed = ap (λ page. page.fields) added.2;
      so_far = (
        so_far.0 ++ added.0 ∷ [],
        subst (λ (taken : Named). AreRowsOf first taken (so_far.0 ++ added.0 ∷ [])) (sym more) (rows_more first _ so_far.0 (bidder_at bidders k) added.0 so_far.1 added.1),
        page_more _ c.loop-k.page.ended c.add_compared.new.page.ended so_far.0 added.0 so_far.2 (ap (λ page. page.ended) added.2),
      );
    }
