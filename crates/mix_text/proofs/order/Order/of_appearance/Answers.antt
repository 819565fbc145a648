use Rattle.std.proofs.Common.{◌∷◌, ◌++◌, [], ◌∙◌, ap, sym}
use Rattle.mix_text.proofs.TieOrders.{places_more}
use Rattle.mix_text.proofs.order.Order.of_appearance.Goals as goal

pub loop-place-preserved : goal.loop-place-preserved
loop-place-preserved c = c.in_ok-push.ensures.ok ∙ ap (λ z. z ++ c.loop-place.place ∷ []) c.loop-place.invariant ∙ sym (places_more c.loop-place.place)
