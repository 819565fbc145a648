use Rattle.std.proofs.Common.{ℕ, ◌<◌, ◌++◌, ◌∷◌, [], List, length, take, get_or, ℤ, pos, arith, ap, length-append}
use Rattle.std.proofs.lemmas.Int.{ints}
use Rattle.mix_ties.proofs.Subtractions.{subtracted-more}
use Rattle.mix_ties.specs.Turns.{subtracted}
use Rattle.mix_ties.proofs.rows.take_from.Goals as goal

pub loop-k-preserved : goal.loop-k-preserved
loop-k-preserved c =
    let i : ℕ = c.loop-k.k in
    let lt : i < length c.args.left.now.items = omega arith in
    let lu : i < length c.args.bundle.now.items = omega arith in
    let a = c.requires.left i (pos 0) lt in
    let b = c.requires.bundle i (pos 0) lu in
    let ea = ap (λ (y : List ℤ). get_or y i (pos 0)) c.deref.ensures.0 in
    let eb = ap (λ (y : List ℤ). get_or y i (pos 0)) c.deref-in-loop-k.ensures.0 in
    record {
      value = rw (c.push.ensures.items, c.loop-k.invariant.value, subtracted-more c.args.left.now.items c.args.bundle.now.items i (pos 0) (pos 0) lt lu)
          (ap (λ (w : ℤ). subtracted (take i c.args.left.now.items) (take i c.args.bundle.now.items) ++ w ∷ []) (omega (arith, ints, ea, eb, a, b)));
      count = rw (c.push.ensures.items, length-append) (omega arith);
    }
