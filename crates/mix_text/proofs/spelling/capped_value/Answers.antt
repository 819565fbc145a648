use Rattle.std.proofs.Common.{◌≡◌, ◌+◌, arith, min, take}
use Rattle.mix_text.specs.Spelling.{value_after}
use Rattle.mix_text.proofs.Digits.{value_after-take}
use Rattle.mix_text.proofs.spelling.capped_value.Goals as goal

pub loop-b-preserved : goal.loop-b-preserved
loop-b-preserved c =
    let more = value_after-take c.args.digits.now c.loop-b.b-index c.loop-b-test.true in
    let e : c.min-value.result ≡ min (value_after 0 (take (c.loop-b.b-index + 1) c.args.digits.now)) 100000000000000 = omega arith in
    e
