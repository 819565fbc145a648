use Rattle.std.proofs.Common.{◌≡◌, take}
use Rattle.mix_text.proofs.bidders.Bidders.copy.Given as goal

abbrev pub invariant-loop-k : goal.invariant-loop-k
invariant-loop-k l = l.bidders ≡ take l.k l.self
