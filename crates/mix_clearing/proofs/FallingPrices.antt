-- Prices that clear are the least that do exactly where each set that may fall makes the Lyapunov function rise.
use Rattle.std.proofs.Common.{◌↔◌, ℤ, List, length, refl}
use Rattle.mix_num.specs.Vectors.{Vector, with_null}
use Rattle.mix_law.specs.Members.{KeepsLocal}
use Rattle.mix_market.specs.Lyapunov.{IsLeastPoint, lyapunov}
use Rattle.mix_law.specs.Clearings.{AreLeastClearing, CanClear}
use Rattle.mix_market.specs.Lowerings.{RisesWhereFallen}
use Rattle.mix_clearing.proofs.LeastClearing.{above-where_clear, least-of_vectors, least_clearing-where_least_point, least_point-where_least_clearing}
use Rattle.mix_market.proofs.SingleSteps.{least_by_lowering}

module _ (utilities : List (Vector → ℤ)) (supply reserve p : List ℤ) {w : ℤ} (keeps : KeepsLocal (length supply) (lyapunov utilities supply) w) (clear : CanClear utilities supply reserve p) where
  -- the least point, and what the test shows
  pub least_point-by_lowering : IsLeastPoint (length supply) (lyapunov utilities supply) (with_null reserve) (with_null p) ↔ RisesWhereFallen (length supply) (lyapunov utilities supply) (with_null reserve) (with_null p)
  least_point-by_lowering =
      least_by_lowering keeps (with_null reserve) (with_null p) refl (above-where_clear utilities supply reserve p clear) (least-of_vectors utilities supply reserve p keeps.reads clear)

  -- the least clearing prices, and what the test shows
  pub least_clearing-by_lowering : AreLeastClearing utilities supply reserve p ↔ RisesWhereFallen (length supply) (lyapunov utilities supply) (with_null reserve) (with_null p)
  least_clearing-by_lowering = (
    (λ are. least_point-by_lowering.0 (least_point-where_least_clearing utilities supply reserve p keeps.reads are)),
    λ rises. least_clearing-where_least_point utilities supply reserve p (least_point-by_lowering.1 rises) clear,
  )
