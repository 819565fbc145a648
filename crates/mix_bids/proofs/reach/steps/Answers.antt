use Rattle.std.proofs.Common.{◌≡◌, ◌∙◌, arith, length, of_z, to_z, w64}
use Rattle.std.proofs.lemmas.Int.{ints}
use Rattle.mix_num.specs.Vectors.{members, with_null}
use Rattle.mix_bids.proofs.LongRaises.{steps_none, steps_some}
use Rattle.mix_bids.proofs.reach.steps.Goals as goal

pub returns-then-gap-gt0-clause-value : goal.returns-then-gap-gt0-clause-value
returns-then-gap-gt0-clause-value c =
    let e = c.gap-gap.ensures in
    let same : to_z w64 (of_z w64 c.gap-gap.result) ≡ c.gap-gap.result = omega (arith, ints, e.range.0, e.range.1) in
    same ∙ e.value ∙ steps_some (length c.args.prices.now.items) c.args.bid.now.values.items (with_null c.args.prices.now.items) (members c.args.set) (omega (arith, c.requires.bid.offers.size)) c.requires.goods (omega (arith, ints, e.value, c.if-gap-gt0.true))

pub returns-else-gap-gt0-clause-value : goal.returns-else-gap-gt0-clause-value
returns-else-gap-gt0-clause-value c =
    let e = c.gap-gap.ensures in
    let same : to_z w64 (of_z w64 c.gap-gap.result) ≡ c.gap-gap.result = omega (arith, ints, e.range.0, e.range.1) in
    steps_none (length c.args.prices.now.items) c.args.bid.now.values.items (with_null c.args.prices.now.items) (members c.args.set) (omega (arith, c.requires.bid.offers.size)) c.requires.goods (omega (arith, ints, e.value, c.if-gap-gt0.false))
