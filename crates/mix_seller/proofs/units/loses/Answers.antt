use Rattle.std.proofs.Common.{arith, Less, to_z, of_z, w64}
use Rattle.std.proofs.lemmas.Cmp.{int_ranked}
use Rattle.std.proofs.lemmas.Int.{ints}
use Rattle.mix_seller.proofs.Choices.{loses_below}
use Rattle.mix_seller.proofs.units.loses.Goals as goal

pub returns-in-Less : goal.returns-in-Less
returns-in-Less c =
    let less = int_ranked (to_z w64 (of_z w64 c.args.price)) (to_z w64 (of_z w64 c.args.reserve)) Less c.in-Less.ensures in
    loses_below c.args.reserve c.args.price c.args.null c.args.good (omega (arith, ints))
