use Rattle.std.proofs.Common.{◌≡◌, take}
use Rattle.mix_text.proofs.copies.copied.Given as goal

abbrev pub invariant-loop-amount : goal.invariant-loop-amount
invariant-loop-amount l = l.copy.items ≡ take l.amount-index l.amounts.items
