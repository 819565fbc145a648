use Rattle.std.proofs.Common.{sym, subst}
use Rattle.mix_canon.proofs.Likenesses.{IsAnswer, answer_by, answer_told}
use Rattle.mix_canon.proofs.comparison.same.Goals as goal

pub returns-in-Some-clause-canonical : goal.returns-in-Some-clause-canonical
returns-in-Some-clause-canonical c = (answer_told c.args.first.now c.args.second.now c.in-Some.told c.in-Some.ensures).canonical

pub returns-clause-equal : goal.returns-clause-equal
returns-clause-equal c = (subst (IsAnswer c.args.first.now c.args.second.now) (sym c.unwrap_or.ensures) (answer_by c.args.first.now c.args.second.now c.told_by.result c.in_default.ensures c.told_by.ensures)).equal

pub returns-clause-canonical : goal.returns-clause-canonical
returns-clause-canonical c = (subst (IsAnswer c.args.first.now c.args.second.now) (sym c.unwrap_or.ensures) (answer_by c.args.first.now c.args.second.now c.told_by.result c.in_default.ensures c.told_by.ensures)).canonical
