use Rattle.std.proofs.Common.{◌≡◌, take}
use Rattle.mix_text.proofs.caps.Caps.copy.Given as goal

abbrev pub invariant-loop-cap : goal.invariant-loop-cap
invariant-loop-cap l = l.copy ≡ take l.cap-index l.self
