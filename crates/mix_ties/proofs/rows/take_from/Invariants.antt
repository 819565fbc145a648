use Rattle.std.proofs.Common.{◌≡◌, length, take}
use Rattle.mix_ties.specs.Turns.{subtracted}
use Rattle.mix_ties.proofs.rows.take_from.Given as goal

abbrev pub invariant-loop-k : goal.invariant-loop-k
invariant-loop-k l = record { value : l.rest.items ≡ subtracted (take l.k l.left.items) (take l.k l.bundle.items); count : length l.rest.items ≡ l.k }
