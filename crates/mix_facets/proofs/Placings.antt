-- Coordinates and choices: each coordinate has its choice, and each other choice its coordinate.
use Rattle.std.proofs.Common.{◌≡◌, ◌≢◌, ℕ, suc, ◌≤◌, ◌<◌, arith}
use Rattle.std.proofs.lemmas.Bool.Decides.{nat_tests}
use Rattle.mix_bids.specs.Levels.{other}
use Rattle.mix_facets.specs.Points.{place}

pub other-place : (i j c : ℕ) → i < j → c ≢ i → c ≢ j → other i j (place i j c) ≡ c
other-place i j c h p q = grind (arith, nat_tests)

pub place-other : (i j k : ℕ) → i < j → place i j (other i j k) ≡ k
place-other i j k h = grind (arith, nat_tests)

pub place_below : (n i j c : ℕ) → i < j → j ≤ n → c ≤ n → c ≢ i → c ≢ j → suc (suc (place i j c)) ≤ n
place_below n i j c h l m p q = grind (arith, nat_tests)

pub other_within : (n i j k : ℕ) → i < j → j ≤ n → suc (suc k) ≤ n → other i j k ≤ n
other_within n i j k h l m = grind (arith, nat_tests)

pub other_first : (i j k : ℕ) → i < j → other i j k ≢ i
other_first i j k h = grind (arith, nat_tests)

pub other_second : (i j k : ℕ) → i < j → other i j k ≢ j
other_second i j k h = grind (arith, nat_tests)
