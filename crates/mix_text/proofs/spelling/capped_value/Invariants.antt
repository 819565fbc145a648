use Rattle.std.proofs.Common.{◌≡◌, min, take}
use Rattle.mix_text.specs.Spelling.{value_after}
use Rattle.mix_text.proofs.spelling.capped_value.Given as goal

abbrev pub invariant-loop-b : goal.invariant-loop-b
invariant-loop-b l = l.value ≡ min (value_after 0 (take l.b-index l.digits)) 100000000000000
