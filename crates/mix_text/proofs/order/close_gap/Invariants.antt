use Rattle.std.proofs.Common.{◌≡◌}
use Rattle.mix_text.specs.Changes.{place_without}
use Rattle.mix_text.proofs.ChangedInPlace.{changed_before}
use Rattle.mix_text.proofs.order.close_gap.Given as goal

abbrev pub invariant-loop-place : goal.invariant-loop-place
invariant-loop-place l = l.places ≡ changed_before (place_without l.left) l.fn.places l.place-index
