use Rattle.std.proofs.Common.{◌≡◌, take}
use Rattle.mix_text.proofs.changes_tests.copied.Given as goal

abbrev pub invariant-loop-offer : goal.invariant-loop-offer
invariant-loop-offer l = l.values.items ≡ take l.offer-index l.bid.values.items
