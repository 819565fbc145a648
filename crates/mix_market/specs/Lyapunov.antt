-- The Lyapunov function of a market, and its least point at or above a start.
use Rattle.std.specs.Prelude.{◌≡◌, ℕ, ◌≤◌, List, [], ◌∷◌, ℤ, pos, ◌+ℤ◌, ◌≤ℤ◌, length}
use Rattle.mix_num.specs.Vectors.{Vector, with_null}
use Rattle.mix_law.specs.Members.{tilted}

-- the sum of functions of the prices
abbrev pub sum_of : List (Vector → ℤ) → Vector → ℤ
sum_of [] x = pos 0
sum_of (f ∷ functions) x = f x +ℤ sum_of functions x

-- the Lyapunov function: the sum of the members' functions, and supply times price
unfoldable pub lyapunov : List (Vector → ℤ) → List ℤ → Vector → ℤ
lyapunov functions supply = tilted (length supply) (sum_of functions) (with_null supply)

-- each price at or below the other's, over the choices 0 to n
abbrev pub IsBelow : ℕ → Vector → Vector → Type 0
IsBelow n x y = (k : ℕ) → k ≤ n → x k ≤ℤ y k

-- of all prices at or above a start, p has the least l, and is least in each good among all that do; the null choice's price is 0
pub record IsLeastPoint (n : ℕ) (l : Vector → ℤ) (start p : Vector) : Type 0 where
  pub above : IsBelow n start p
  pub least : (q : Vector) → q 0 ≡ pos 0 → IsBelow n start q → l p ≤ℤ l q
  pub lowest : (q : Vector) → q 0 ≡ pos 0 → IsBelow n start q → l q ≡ l p → IsBelow n p q
