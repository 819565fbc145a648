use Rattle.std.proofs.Common.{◌≡◌, take, length}
use Rattle.mix_ties.proofs.rows.copy_of.Given as goal

abbrev pub invariant-loop-amount : goal.invariant-loop-amount
invariant-loop-amount l = record { items : l.copy.items ≡ take l.amount-index l.bundle.items; count : length l.copy.items ≡ l.amount-index }
