-- Vectors with a whole number for each choice, and sets of choices as tests. Choice 0 is the null choice.
use Rattle.std.specs.Prelude.{◌≡◌, ℕ, zero, suc, ◌≤◌, Bool, true, false, cond, not, eqb, List, ◌∷◌, ℤ, pos, ◌+ℤ◌, ◌-ℤ◌, ◌*ℤ◌, get_or}
use Rattle.std.specs.Int.{bit_at}

-- a vector: a number for each choice
abbrev pub Vector : Type 0
Vector = ℕ → ℤ

-- a set of choices, as its test
abbrev pub Choices : Type 0
Choices = ℕ → Bool

-- 1 for a member, 0 for any other choice
abbrev pub bit : Bool → ℤ
bit b = cond b (pos 1) (pos 0)

-- each member's entry raised by one
abbrev pub plus : Vector → Choices → Vector
plus x s = λ k. x k +ℤ bit (s k)

-- each member's entry lowered by one
abbrev pub minus : Vector → Choices → Vector
minus x s = λ k. x k -ℤ bit (s k)

-- each member's entry raised by m
abbrev pub ray : Vector → ℕ → Choices → Vector
ray x m s = λ k. x k +ℤ cond (s k) (pos m) (pos 0)

-- every entry raised by k
abbrev pub shifted : Vector → ℤ → Vector
shifted x k = λ i. x i +ℤ k

-- one choice alone
abbrev pub only : ℕ → Choices
only i = λ k. eqb k i

-- the choices in both sets, in either, and outside a set
abbrev pub both : Choices → Choices → Choices
both s t = λ k. cond (s k) (t k) false

abbrev pub either : Choices → Choices → Choices
either s t = λ k. cond (s k) true (t k)

abbrev pub outside : Choices → Choices
outside s = λ k. not (s k)

-- the same entries at the choices 0 to n
abbrev pub Agree : ℕ → Vector → Vector → Type 0
Agree n x y = (k : ℕ) → k ≤ n → x k ≡ y k

-- the sum of the first m entries
abbrev pub sum_to : ℕ → Vector → ℤ
sum_to zero x = pos 0
sum_to (suc m) x = sum_to m x +ℤ x m

-- the sum of the products of the first m entries
abbrev pub dot_to : ℕ → Vector → Vector → ℤ
dot_to zero q x = pos 0
dot_to (suc m) q x = dot_to m q x +ℤ (q m *ℤ x m)

-- the prices of all choices: the null choice's is 0
abbrev pub with_null : List ℤ → Vector
with_null prices = λ k. get_or (pos 0 ∷ prices) k (pos 0)

-- the set of a number: its members are the numbers of its bits
abbrev pub members : ℕ → Choices
members bits = λ k. eqb (bit_at bits k) 1
