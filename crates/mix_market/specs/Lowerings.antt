-- Lowering the prices of a set of goods by one.
use Rattle.std.specs.Prelude.{◌≡◌, ℕ, ◌≤◌, ◌<◌, true, ℤ, ◌<ℤ◌}
use Rattle.mix_num.specs.Vectors.{Vector, members, minus}
use Rattle.mix_num.specs.Moves.{IsSetOfGoods}

-- a set of goods may fall: it isn't empty, and the price of each of its goods is above its start
pub record CanFall (n : ℕ) (start p : Vector) (set : ℕ) : Type 0 where
  pub goods : IsSetOfGoods n set
  pub some : 0 < set
  pub above : (k : ℕ) → k ≤ n → members set k ≡ true → start k <ℤ p k

-- wherever such a set's prices fall by one, l rises
abbrev pub RisesWhereFallen : ℕ → (Vector → ℤ) → Vector → Vector → Type 0
RisesWhereFallen n l start p = (set : ℕ) → CanFall n start p set → l p <ℤ l (minus p (members set))
