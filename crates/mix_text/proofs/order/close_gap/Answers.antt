use Rattle.std.proofs.Common.{◌<◌, ◌∙◌, ap, ℕ, List, get_or, length, set, arith}
use Rattle.mix_text.specs.Changes.{place_without}
use Rattle.mix_text.proofs.ChangedInPlace.{change_next}
use Rattle.mix_text.proofs.order.close_gap.Goals as goal

pub loop-place-preserved : goal.loop-place-preserved
loop-place-preserved c =
    let below : c.loop-place.place-index < length c.args.places.now = omega arith in
    ap (set c.loop-place.places c.loop-place.place-index) c.lowered.ensures
    ∙ ap (λ (places : List ℕ). set places c.loop-place.place-index (place_without c.args.left (get_or places c.loop-place.place-index 0))) c.loop-place.invariant
    ∙ change_next (place_without c.args.left) c.args.places.now c.loop-place.place-index below
