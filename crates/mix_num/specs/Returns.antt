-- What the seller may keep.
use Rattle.std.specs.Prelude.{◌≡◌, ℕ, ◌<◌, ℤ, pos, ◌≤ℤ◌, ◌<ℤ◌, List, length, get_or}

-- lawful returns: of each good from nothing to the whole supply, and some only where the price is the reserve
pub record AreLawfulReturns (supply reserve prices returns : List ℤ) : Type 0 where
  pub size : length returns ≡ length supply
  pub some : (i : ℕ) → i < length supply → pos 0 ≤ℤ get_or returns i (pos 0)
  pub most : (i : ℕ) → i < length supply → get_or returns i (pos 0) ≤ℤ get_or supply i (pos 0)
  pub at_reserve : (i : ℕ) → i < length supply → pos 0 <ℤ get_or returns i (pos 0) → get_or prices i (pos 0) ≡ get_or reserve i (pos 0)
