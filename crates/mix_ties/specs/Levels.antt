-- Pairs of sets by two tables alone: by how much the upper set's number of the one is above the lower set's of the other. For proofs; no
-- public clause rests on it.
use Rattle.std.specs.Prelude.{◌≡◌, ℕ, ◌≤◌, ℤ, ◌-ℤ◌, List}
use Rattle.mix_num.specs.Tables.{number_of}
use Rattle.mix_num.specs.Pairs.{IsPair}

-- a pair for good j, of which the upper set's number is above the lower set's by the amount
pub record IsLevel (n j : ℕ) (upper lower : List ℤ) (amount : ℤ) (a b : ℕ) : Type 0 where
  pub pair : IsPair n j a b
  pub gap : number_of upper a -ℤ number_of lower b ≡ amount

-- the first such pair: of all, it has the least upper set, and among these the least lower one
pub record IsFirstLevel (n j : ℕ) (upper lower : List ℤ) (amount : ℤ) (a b : ℕ) : Type 0 where
  pub level : IsLevel n j upper lower amount a b
  pub least_upper : (c d : ℕ) → IsLevel n j upper lower amount c d → a ≤ c
  pub least_lower : (d : ℕ) → IsLevel n j upper lower amount a d → b ≤ d
