-- What bundles bring at prices.
use Rattle.std.specs.Prelude.{List, [], ◌∷◌, ℤ, pos, ◌+ℤ◌}
use Rattle.mix_num.specs.Sums.{dot_of}

-- the sum over the bundles of price times quantity
abbrev pub receipts_of : List ℤ → List (List ℤ) → ℤ
receipts_of prices [] = pos 0
receipts_of prices (bundle ∷ bundles) = dot_of prices bundle +ℤ receipts_of prices bundles
