use Rattle.std.proofs.Common.{◌≡◌, ◌∙◌, ap₂, arith, get_or, int_eq, pos, to_z, of_z, w64}
use Rattle.std.proofs.lemmas.Int.{ints}
use Rattle.mix_bids.proofs.Gathered.{gathered_step}
use Rattle.mix_bids.proofs.agreements.equals.Goals as goal

pub loop-other-preserved : goal.loop-other-preserved
loop-other-preserved c =
    let xs = c.args.shifts.now in
    let r = c.requires.range c.loop-other.other (omega arith) in
    let s = c.requires.range c.args.choice c.requires.choice in
    let v : to_z w64 (of_z w64 (get_or xs c.loop-other.other (pos 0))) ≡ get_or xs c.loop-other.other (pos 0) = omega (arith, ints) in
    let w : to_z w64 (of_z w64 (get_or xs c.args.choice (pos 0))) ≡ get_or xs c.args.choice (pos 0) = omega (arith, ints) in
    gathered_step c.loop-other.other _ _ (λ k. int_eq (get_or xs k (pos 0)) (get_or xs c.args.choice (pos 0))) _ (c.is_same.ensures ∙ ap₂ int_eq v w) c.loop-other.invariant c.with_where-set.ensures
