use Rattle.std.proofs.Common.{◌≡◌, ◌++◌, drop}
use Rattle.mix_text.specs.Bidders.{names_at}
use Rattle.mix_text.proofs.shared_rows.add_served.Given as goal

-- the fields so far, and the names from here on, are the fields at first and all names
abbrev pub invariant-loop-turn : goal.invariant-loop-turn
invariant-loop-turn l = record {
  ended : l.page.ended ≡ l.fn.page.ended;
  so_far : l.page.fields ++ names_at l.auction.bidders (drop l.turn l.auction.order) ≡ l.fn.page.fields ++ names_at l.auction.bidders l.auction.order;
}
