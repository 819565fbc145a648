-- Bidders without caps.
use Rattle.std.proofs.Common.{◌≡◌, ℕ, zero, suc, length, refl, None}
use Rattle.std.proofs.lemmas.List.{length-replicate}
use Rattle.mix_text.specs.Bidders.{Named}
use Rattle.mix_text.specs.Caps.{AreCaps, cap_at, no_caps}

-- none of them has a cap
pub none_at : (m k : ℕ) → cap_at (no_caps m) k ≡ None
none_at zero k = refl
none_at (suc m) zero = refl
none_at (suc m) (suc k) = none_at m k

pub are_no_caps : (bidders : Named) → AreCaps bidders (no_caps (length bidders))
are_no_caps bidders = record {
  size = length-replicate (length bidders) None;
  range = λ k cap e. absurd (let n = none_at (length bidders) k in cc);
  positive = λ k cap e. absurd (let n = none_at (length bidders) k in cc);
}
