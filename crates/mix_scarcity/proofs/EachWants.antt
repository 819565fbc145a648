-- Bidders of whom each wants no less than before, and who may be more.
use Rattle.std.proofs.Common.{ℕ, suc, ◌≤◌, ◌<◌, ℤ, ◌≤ℤ◌, List, [], ◌∷◌, length, arith}
use Rattle.std.proofs.lemmas.Int.{ints}
use Rattle.mix_num.specs.Vectors.{Vector}
use Rattle.mix_market.specs.Lyapunov.{IsBelow, sum_of}
use Rattle.mix_law.specs.Clearings.{bidder_utility}
use Rattle.mix_clearing.specs.Scarcity.{WantsNoLess}

-- utilities that never rise with prices
some_fall : (n : ℕ) (others : List (Vector → ℤ)) → ((k : ℕ) → k < length others → (x y : Vector) → IsBelow n x y → bidder_utility others k y ≤ℤ bidder_utility others k x)
    → (x y : Vector) → IsBelow n x y → sum_of others y ≤ℤ sum_of others x
some_fall n [] fall x y h = omega (arith, ints)
some_fall n (g ∷ others) fall x y h =
    let a = fall 0 (omega arith) x y h in
    let b = some_fall n others (λ k l. fall (suc k) (omega arith)) x y h in
    omega (arith, ints)

-- each at the same place wants no less, and those after them never rise
pub all_want : (n : ℕ) (utilities others : List (Vector → ℤ)) → length utilities ≤ length others
    → ((k : ℕ) → k < length utilities → WantsNoLess n (bidder_utility utilities k) (bidder_utility others k))
    → ((k : ℕ) → length utilities ≤ k → k < length others → (x y : Vector) → IsBelow n x y → bidder_utility others k y ≤ℤ bidder_utility others k x)
    → WantsNoLess n (sum_of utilities) (sum_of others)
all_want n [] others few want fall x y h = let a = some_fall n others (λ k l. fall k (omega arith) l) x y h in omega (arith, ints)
all_want n (f ∷ utilities) [] few want fall x y h = absurd (omega arith)
all_want n (f ∷ utilities) (g ∷ others) few want fall x y h =
    let a = want 0 (omega arith) x y h in
    let b = all_want n utilities others (omega arith) (λ k l. want (suc k) (omega arith)) (λ k l m. fall (suc k) (omega arith) (omega arith)) x y h in
    omega (arith, ints)
