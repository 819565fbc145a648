use Rattle.std.proofs.Common.{◌≡◌, ◌+◌, drop, length}
use Rattle.mix_answer.specs.Readings.{first_rows, following, share_of}
use Rattle.mix_answer.proofs.reading.read_shares.Given as goal

-- the shares so far, and what the rows from here on say, are what all rows say
abbrev pub invariant-loop-k : goal.invariant-loop-k
invariant-loop-k l = record {
  so_far : following l.shares (first_rows l.rest.next (λ bidder. share_of (length l.auction.goods) bidder.0) (drop l.k l.auction.bidders) (drop (l.first + l.k) l.rest.rows))
      ≡ first_rows l.rest.next (λ bidder. share_of (length l.auction.goods) bidder.0) l.auction.bidders (drop l.first l.rest.rows);
}
