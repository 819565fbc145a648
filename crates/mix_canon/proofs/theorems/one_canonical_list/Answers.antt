use Rattle.std.proofs.Common.{refl}
use Rattle.mix_canon.proofs.Canonicals.{canonical, canonical_is, same_canon}
use Rattle.mix_canon.proofs.theorems.one_canonical_list.Goals as goal

pub returns-clause-some : goal.returns-clause-some
returns-clause-some c = λ bs. (canonical bs, canonical_is bs)

pub returns-clause-no_other : goal.returns-clause-no_other
returns-clause-no_other c = λ bs ts us is also. (same_canon bs bs ts us is also).0 (λ v. refl)
