-- Prices within 1,000,000 have room for a step by one.
use Rattle.std.proofs.Common.{ℕ, List, length, ℤ, refl, arith}
use Rattle.std.proofs.lemmas.Int.{ints}
use Rattle.mix_num.specs.Ranges.{AreWithin, ArePrices}

-- prices within 1,000,000 may be moved by one
pub widened : (n : ℕ) (prices : List ℤ) → AreWithin 1000000 n prices → ArePrices (length prices) prices
widened n prices w = (refl, λ k d h. let r = w.1 k d h in (omega (arith, ints), omega (arith, ints)))
