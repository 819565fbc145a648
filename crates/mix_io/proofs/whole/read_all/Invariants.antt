use Rattle.std.proofs.Common.{length, ◌-◌, ◌≡◌, ◌≤◌}
use Rattle.std.specs.Io.KnownBytes.{Consumes}
use Rattle.mix_io.proofs.whole.read_all.Given as goal

-- no call has failed, and the bytes so far, at most the limit, were consumed
abbrev pub invariant-loop-count : goal.invariant-loop-count
invariant-loop-count g l = (g.S.Source.faults l.source ≡ g.S.Source.faults l.initial.source) × (length l.bytes.items ≤ l.limit)
    × Consumes (g.S.Source.left l.initial.source) (g.S.Source.left l.source) l.bytes.items

abbrev pub decreases-loop-count : goal.decreases-loop-count
decreases-loop-count g l = l.limit - length l.bytes.items
