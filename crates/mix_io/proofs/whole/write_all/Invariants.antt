use Rattle.std.proofs.Common.{length, ◌-◌, ◌≡◌, ◌≤◌, take}
use Rattle.std.specs.Io.KnownBytes.{Appends}
use Rattle.mix_io.proofs.whole.write_all.Given as goal

-- no call has failed, and what stands before the place was appended
abbrev pub invariant-loop-at : goal.invariant-loop-at
invariant-loop-at g l = (g.K.Sink.faults l.sink ≡ g.K.Sink.faults l.initial.sink) × (l.at ≤ length l.bytes)
    × Appends (g.K.Sink.taken l.initial.sink) (g.K.Sink.taken l.sink) (take l.at l.bytes)

abbrev pub decreases-loop-at : goal.decreases-loop-at
decreases-loop-at g l = length l.bytes - l.at
