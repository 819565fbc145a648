use Rattle.std.proofs.Common.{◌≡◌, ◌+◌, ◌*◌, drop, length}
use Rattle.mix_answer.specs.Outcomes.{bidders_goods}
use Rattle.mix_answer.specs.Readings.{first_rows, following, tight_of}
use Rattle.mix_answer.proofs.reading.read_tights.Given as goal

-- the pairs so far, and what the rows from here on say, are what all rows say
abbrev pub invariant-loop-k : goal.invariant-loop-k
invariant-loop-k l = record {
  so_far : following l.tights (first_rows l.rest.next (tight_of (length l.auction.goods)) (bidders_goods l.auction.goods (drop l.k l.auction.bidders)) (drop (l.first + l.k * length l.auction.goods) l.rest.rows))
      ≡ first_rows l.rest.next (tight_of (length l.auction.goods)) (bidders_goods l.auction.goods l.auction.bidders) (drop l.first l.rest.rows);
}
