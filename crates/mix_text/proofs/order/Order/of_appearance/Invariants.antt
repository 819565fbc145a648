use Rattle.std.proofs.Common.{◌≡◌}
use Rattle.mix_num.specs.Orders.{places}
use Rattle.mix_text.proofs.order.Order.of_appearance.Given as goal

abbrev pub invariant-loop-place : goal.invariant-loop-place
invariant-loop-place l = l.order ≡ places l.place
