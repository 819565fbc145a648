use Rattle.std.proofs.Common.{◌≡◌, replicate}
use Rattle.mix_session.specs.declared.standing.Standing.TheVariants.{Open}
use Rattle.mix_session.proofs.session.nothing_known.Given as goal

abbrev pub invariant-loop : goal.invariant-loop
invariant-loop l = l.standings.items ≡ replicate l.counter Open
