use Rattle.std.proofs.Common.{◌≡◌, take}
use Rattle.mix_text.proofs.order.Order.copy.Given as goal

abbrev pub invariant-loop-place : goal.invariant-loop-place
invariant-loop-place l = l.order ≡ take l.place-index l.self
