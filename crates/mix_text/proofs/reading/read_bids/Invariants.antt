use Rattle.std.proofs.Common.{◌≡◌, [], List, drop}
use Rattle.mix_text.specs.Reading.{NamedBid, bidders_of, bids_from}
use Rattle.mix_text.proofs.reading.read_bids.Given as goal

-- the bids so far are gathered, and those from here on are read as after them
abbrev pub invariant-loop-k : goal.invariant-loop-k
invariant-loop-k l = (before : List NamedBid) × (l.bidders ≡ bidders_of l.goods before)
    × (bids_from l.format l.limits l.goods [] (drop 4 l.rows) ≡ bids_from l.format l.limits l.goods before (drop l.k l.rows))
