use Rattle.std.proofs.Common.{◌≡◌, ℕ, ◌<◌, pos, get_or}
use Rattle.mix_num.specs.Vectors.{members, with_null}
use Rattle.mix_law.specs.Members.{rho}
use Rattle.mix_demand.proofs.rho.write_numbers.Given as goal

abbrev pub invariant-loop-bits : goal.invariant-loop-bits
invariant-loop-bits g l = (set : ℕ) → set < l.bits → get_or l.numbers set (pos 0) ≡ rho (g.D.Convex.function l.fn.member) (with_null l.fn.prices.items) (members set)
