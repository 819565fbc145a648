use Rattle.std.proofs.Common.{◌≡◌, ◌≤◌, length, drop, arith, ap, min, ◌∙◌}
use Rattle.std.proofs.lemmas.List.{length-take-le}
use Rattle.mix_io.proofs.Pieces.{consumes-front, drop-at_end, rest_of}
use Rattle.mix_io.proofs.memory.MemorySourceSource.read.Goals as goal

pub returns-clause-bytes : goal.returns-clause-bytes
returns-clause-bytes c =
    let at = c.self.inside.at in
    let xs = c.self.inside.bytes.items in
    let n = c.min-count.result in
    let buf = c.args.buf.now in
    let same = c.deref-2.ensures.value in
    let left = ap (λ s. s.left) c.self.view_is in
    let count = rw (same, rest_of at xs) at c.min.ensures in
    let piece = rw (same, rest_of at xs) at c.copy_from_slice.ensures.after in
    let least : n ≡ min (min (length (drop at xs)) (length buf)) c.self.inside.piece = c.min-count.ensures ∙ ap (λ m. min m c.self.inside.piece) count in
    let le : n ≤ length (drop at xs) = omega arith in
    let given = ap length piece ∙ length-take-le n (drop at xs) le in
    (rw (← left, piece) (consumes-front n at xs (drop n buf) le), drop-at_end n at c.self.inside.piece xs c.copy_from_slice.new.self buf least c.self.invariant.1 given)
