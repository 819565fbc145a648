use Rattle.std.proofs.Common.{arith, ◌≡◌, ◌≤◌, ◌++◌, length, suc, take}
use Rattle.std.proofs.lemmas.List.{length-append, length-take}
use Rattle.mix_io.proofs.Pieces.{consumes-more}
use Rattle.mix_io.proofs.whole.read_all.Goals as goal

pub returns-then-len-count-clause-taken : goal.returns-then-len-count-clause-taken
returns-then-len-count-clause-taken g c =
    let before = c.loop-count.bytes.items in
    let given = take c.in-Ok.count c.read.new.buf in
    let asked = length-take c.min-wanted.result c.loop-count.chunk in
    let count = c.in-Ok.ensures.bound in
    let one_more : length (before ++ given) ≡ suc c.args.limit = omega (arith, length-append before given, c.read.auto.buf) in
    (before ++ given, one_more, consumes-more _ _ _ _ _ c.loop-count.invariant.2 c.in-Ok.ensures.bytes.0)

pub returns-then-is_err-clause-taken : goal.returns-then-is_err-clause-taken
returns-then-is_err-clause-taken g c =
    let before = c.loop-count.bytes.items in
    let given = take c.in-Ok.count c.read.new.buf in
    let count = c.in-Ok.ensures.bound in
    let within : length (before ++ given) ≤ c.args.limit = omega (arith, length-append before given) in
    (before ++ given, within, consumes-more _ _ _ _ _ c.loop-count.invariant.2 c.in-Ok.ensures.bytes.0)
