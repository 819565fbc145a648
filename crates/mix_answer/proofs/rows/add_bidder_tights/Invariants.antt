use Rattle.std.proofs.Common.{◌≡◌, ◌+◌, ◌*◌, ◌++◌, [], drop, length}
use Rattle.mix_text.specs.Bidders.{name_at}
use Rattle.mix_text.specs.Pages.{printed}
use Rattle.mix_answer.specs.Outcomes.{tight_rows, with_each}
use Rattle.mix_answer.proofs.rows.add_bidder_tights.Given as goal

-- the rows so far, and those of the goods from here on, are those at first and all of them
abbrev pub invariant-loop-j : goal.invariant-loop-j
invariant-loop-j l = record {
  open_row : l.page.fields ≡ [];
  so_far : l.page.ended ++ printed (tight_rows (with_each (drop l.j l.auction.goods) (name_at l.auction.bidders l.k)) (drop (l.k * length l.auction.goods + l.j) l.tights))
      ≡ l.fn.page.ended ++ printed (tight_rows (with_each l.auction.goods (name_at l.auction.bidders l.k)) (drop (l.k * length l.auction.goods) l.tights));
}
