use Rattle.std.proofs.Common.{◌≡◌, take}
use Rattle.mix_serve.proofs.serving.listed.Given as goal

abbrev pub invariant-loop-pair : goal.invariant-loop-pair
invariant-loop-pair l = l.tights ≡ take l.pair-index l.pairs
