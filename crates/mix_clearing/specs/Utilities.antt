-- Bidders' utilities that keep the laws of members of the market.
use Rattle.std.specs.Prelude.{ℕ, ◌<◌, ℤ, List, length}
use Rattle.mix_num.specs.Vectors.{Vector}
use Rattle.mix_law.specs.Members.{KeepsLaws}
use Rattle.mix_law.specs.Clearings.{bidder_utility}

-- each utility keeps them, over n goods
abbrev pub KeepLaws : ℕ → List (Vector → ℤ) → Type 0
KeepLaws n utilities = (k : ℕ) → k < length utilities → KeepsLaws n (bidder_utility utilities k)
