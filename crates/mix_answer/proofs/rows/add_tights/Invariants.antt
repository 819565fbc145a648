use Rattle.std.proofs.Common.{◌≡◌, ◌*◌, ◌++◌, [], drop, length}
use Rattle.mix_text.specs.Pages.{printed}
use Rattle.mix_answer.specs.Outcomes.{bidders_goods, tight_rows}
use Rattle.mix_answer.proofs.rows.add_tights.Given as goal

-- the rows so far, and those of the bidders from here on, are those at first and all of them
abbrev pub invariant-loop-k : goal.invariant-loop-k
invariant-loop-k l = record {
  open_row : l.page.fields ≡ [];
  so_far : l.page.ended ++ printed (tight_rows (bidders_goods l.auction.goods (drop l.k l.auction.bidders)) (drop (l.k * length l.auction.goods) l.tights))
      ≡ l.fn.page.ended ++ printed (tight_rows (bidders_goods l.auction.goods l.auction.bidders) l.tights);
}
