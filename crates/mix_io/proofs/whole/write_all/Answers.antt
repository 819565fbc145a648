use Rattle.std.proofs.Common.{◌∙◌, arith, length, ◌≤◌, ◌+◌}
use Rattle.std.proofs.lemmas.List.{length-drop}
use Rattle.mix_io.proofs.Pieces.{appends-more}
use Rattle.mix_io.proofs.whole.write_all.Goals as goal

pub loop-at-preserved : goal.loop-at-preserved
loop-at-preserved g c =
    let before = c.loop-at.invariant in
    let taken = c.in-Ok.ensures in
    let fits : c.loop-at.at + c.in-Ok.count ≤ length c.args.bytes.now = omega (arith, taken.bound, length-drop c.loop-at.at c.args.bytes.now) in
    (taken.cause.kept ∙ before.0, fits, appends-more _ _ _ _ _ _ before.2 taken.bytes)
