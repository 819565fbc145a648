use Rattle.std.proofs.Common.{◌≡◌, ◌+◌, drop, length}
use Rattle.mix_text.specs.Bidders.{name_at}
use Rattle.mix_answer.specs.Outcomes.{with_each}
use Rattle.mix_answer.specs.Readings.{first_rows, following, tight_of}
use Rattle.mix_answer.proofs.reading.read_bidder_tights.Given as goal

-- the pairs so far, and what the rows from here on say, are those at first and what all rows say
abbrev pub invariant-loop-j : goal.invariant-loop-j
invariant-loop-j l = record {
  so_far : following l.tights (first_rows l.rest.next (tight_of (length l.auction.goods)) (drop l.j (with_each l.auction.goods (name_at l.auction.bidders l.k))) (drop (l.first + l.j) l.rest.rows))
      ≡ following l.fn.tights (first_rows l.rest.next (tight_of (length l.auction.goods)) (with_each l.auction.goods (name_at l.auction.bidders l.k)) (drop l.first l.rest.rows));
}
