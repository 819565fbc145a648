use Rattle.std.proofs.Common.{refl}
use Rattle.mix_ties.specs.Peeled.{greedy}
use Rattle.mix_ties.proofs.pairs.tests.finds_the_pairs_of_two_bidders.Goals as goal

pub pairs_of-pairs-requires : goal.pairs_of-pairs-requires
unfolding greedy
pairs_of-pairs-requires g c = refl

pub pairs_of-pairs-requires-2 : goal.pairs_of-pairs-requires-2
unfolding greedy
pairs_of-pairs-requires-2 g c = refl
