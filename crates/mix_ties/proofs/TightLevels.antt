-- Where a bundle's goods before a good are taken from a row and from its floor, the tight pairs are those of two tables.
use Rattle.std.proofs.Common.{◌≡◌, ℕ, suc, ◌^◌, ◌<◌, ℤ, pos, ◌-ℤ◌, List, get_or, arith}
use Rattle.std.proofs.lemmas.Int.{ints}
use Rattle.mix_num.specs.Tables.{number_of}
use Rattle.mix_num.specs.Pairs.{IsFirstTight, IsTight, sum_before}
use Rattle.mix_ties.specs.Levels.{IsFirstLevel, IsLevel}

-- what a bundle has of the goods before j is taken from each set
abbrev pub AreTaken : ℕ → ℕ → List ℤ → List ℤ → List ℤ → Type 0
AreTaken n j bundle old now = (set : ℕ) → set < 2 ^ suc n → number_of now set ≡ number_of old set -ℤ sum_before j bundle set

module _ (n j : ℕ) (row floor upper lower xs : List ℤ) (taken : AreTaken n j xs row upper) (taken' : AreTaken n j xs floor lower) where
  pub level_of_tight : (a b : ℕ) → IsTight n j row (number_of floor) xs a b → IsLevel n j upper lower (get_or xs j (pos 0)) a b
  level_of_tight a b t = record {
    pair = t.pair;
    gap = let e = taken a t.pair.upper_set in let f = taken' b t.pair.lower_set in let m = t.number in omega (arith, ints);
  }

  tight_of_level : (a b : ℕ) → IsLevel n j upper lower (get_or xs j (pos 0)) a b → IsTight n j row (number_of floor) xs a b
  tight_of_level a b t = record {
    pair = t.pair;
    number = let e = taken a t.pair.upper_set in let f = taken' b t.pair.lower_set in let m = t.gap in omega (arith, ints);
  }

  pub first_tight_of_level : (a b : ℕ) → IsFirstLevel n j upper lower (get_or xs j (pos 0)) a b → IsFirstTight n j row (number_of floor) xs a b
  first_tight_of_level a b t = record {
    tight = tight_of_level a b t.level;
    least_upper = λ c d u. t.least_upper c d (level_of_tight c d u);
    least_lower = λ d u. t.least_lower d (level_of_tight a d u);
  }
