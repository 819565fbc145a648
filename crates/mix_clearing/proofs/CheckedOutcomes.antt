-- What a checker's tests show: the prices are the least clearing prices, and the bundles keep the tie rule.
use Rattle.std.proofs.Common.{ℕ, ◌<◌, List, ℤ, pos, ◌≤ℤ◌, length, get_or}
use Rattle.mix_num.specs.Vectors.{Vector, with_null}
use Rattle.mix_num.specs.Orders.{IsOrder}
use Rattle.mix_market.specs.Lyapunov.{lyapunov}
use Rattle.mix_law.specs.Clearings.{Clears, IsSolution}
use Rattle.mix_law.specs.Certificates.{IsTightPair}
use Rattle.mix_market.specs.Lowerings.{RisesWhereFallen}
use Rattle.mix_clearing.specs.Utilities.{KeepLaws}
use Rattle.mix_clearing.proofs.FallingPrices.{least_clearing-by_lowering}
use Rattle.mix_clearing.proofs.LyapunovLaws.{keep_local, lyapunov_keeps_local}
use Rattle.mix_clearing.proofs.TieRules.{pairs_keep_rule}

-- where an outcome clears, each set that may fall makes the Lyapunov function rise, and each bidder and good has a tight pair, it is a solution
pub checked_outcome : (utilities : List (Vector → ℤ)) (supply reserve prices : List ℤ) (order : List ℕ) (bundles : List (List ℤ)) (returns : List ℤ)
    → KeepLaws (length supply) utilities → IsOrder (length utilities) order → ((i : ℕ) → i < length supply → pos 0 ≤ℤ get_or supply i (pos 0))
    → Clears utilities supply reserve prices bundles returns
    → RisesWhereFallen (length supply) (lyapunov utilities supply) (with_null reserve) (with_null prices)
    → ((k j : ℕ) → k < length order → j < length supply → (upper : ℕ) × (lower : ℕ) × IsTightPair utilities supply reserve prices order bundles k j upper lower)
    → IsSolution utilities supply reserve order prices bundles returns
checked_outcome utilities supply reserve prices order bundles returns laws ordered stock c rises tight =
    let keeps = lyapunov_keeps_local utilities supply (keep_local (length supply) utilities laws) in
    record {
      least = (least_clearing-by_lowering utilities supply reserve prices keeps.1 (bundles, returns, c)).1 rises;
      clear = c;
      rule = pairs_keep_rule utilities supply reserve prices order laws ordered stock bundles c.sizes tight;
    }
