-- An ordered map from value vectors to weights. For proofs; no public clause rests on it.
use Rattle.std.specs.Prelude.{ℤ, pos, Option}
use Rattle.std.specs.Option.{unwrap_or}
use Rattle.std.specs.BTreeMap.{BTreeMap, get_by}
use Rattle.arrayvec.specs.ArrayVec.{ArrayVec}
use Rattle.mix_bids.specs.Offers.{Offers}
use Rattle.mix_canon.specs.Canons.{value_order}

-- a value vector, as the map's key
abbrev pub Key : Type 0
Key = ArrayVec (Option ℤ)

-- the weight that a map has for a value vector
abbrev pub weight_at : BTreeMap Key ℤ → Offers → ℤ
weight_at m v = unwrap_or (get_by (λ k. value_order v k.items) m) (pos 0)
