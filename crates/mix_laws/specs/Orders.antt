-- The same bidders in another order.
use Rattle.std.specs.Prelude.{ℕ, ℤ, List, map}
use Rattle.mix_num.specs.Vectors.{Vector}
use Rattle.mix_law.specs.Clearings.{bidder_utility}

-- the utilities, one after the other in the order
abbrev pub utilities_in : List ℕ → List (Vector → ℤ) → List (Vector → ℤ)
utilities_in order utilities = map (λ k. bidder_utility utilities k) order
