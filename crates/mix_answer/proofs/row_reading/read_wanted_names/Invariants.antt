use Rattle.std.proofs.Common.{◌≡◌, ◌+◌, drop}
use Rattle.mix_text.specs.Bidders.{names_at}
use Rattle.mix_answer.specs.Readings.{wanted_names}
use Rattle.mix_answer.proofs.row_reading.read_wanted_names.Given as goal

-- what the names from here on give is what all names give
abbrev pub invariant-loop-turn : goal.invariant-loop-turn
invariant-loop-turn l =
    wanted_names (names_at l.auction.bidders (drop l.turn l.auction.order)) (drop (l.turn + 1) l.row.fields) ≡ wanted_names (names_at l.auction.bidders l.auction.order) (drop 1 l.row.fields)
