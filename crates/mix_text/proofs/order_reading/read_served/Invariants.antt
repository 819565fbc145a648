use Rattle.std.proofs.Common.{◌≡◌, [], length, drop}
use Rattle.mix_text.specs.Orders.{AreMarks}
use Rattle.mix_text.specs.Reading.{served_after}
use Rattle.mix_text.proofs.order_reading.read_served.Given as goal

abbrev pub invariant-loop-k : goal.invariant-loop-k
invariant-loop-k l = AreMarks (length l.bidders) l.order l.marks.items
    × (served_after l.bidders l.order (drop l.k l.row.fields) ≡ served_after l.bidders [] (drop 1 l.row.fields))
