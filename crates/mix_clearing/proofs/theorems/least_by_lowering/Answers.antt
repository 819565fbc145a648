use Rattle.std.proofs.Common.{length}
use Rattle.mix_clearing.proofs.FallingPrices.{least_clearing-by_lowering}
use Rattle.mix_clearing.proofs.LyapunovLaws.{keep_local, lyapunov_keeps_local}
use Rattle.mix_clearing.proofs.theorems.least_by_lowering.Goals as goal

pub returns : goal.returns
returns c = λ utilities supply reserve prices laws can.
    least_clearing-by_lowering utilities supply reserve prices (lyapunov_keeps_local utilities supply (keep_local (length supply) utilities laws)).1 can
