use Rattle.std.proofs.Common.{ℕ, subst}
use Rattle.mix_num.specs.Ranges.{HaveRoom}
use Rattle.mix_run.proofs.ReadPrices.{prices_ok}
use Rattle.mix_run.proofs.command.utility.print_utilities.Goals as goal

pub utilities-requires : goal.utilities-requires
utilities-requires c = subst (λ (n : ℕ). HaveRoom n c.in-Ok.prices.items) c.len.ensures (prices_ok _ _ _ c.in-Ok.ensures.read)
