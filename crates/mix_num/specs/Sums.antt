-- Sums over the goods of a bundle, and over the choices of a set.
use Rattle.std.specs.Prelude.{ℕ, cond, List, ℤ, pos, length, get_or}
use Rattle.mix_num.specs.Vectors.{Vector, sum_to, dot_to, members}

-- the entries of a list as a vector
abbrev pub entries : List ℤ → Vector
entries xs = λ k. get_or xs k (pos 0)

-- the sum of all entries
unfoldable pub total : List ℤ → ℤ
total xs = sum_to (length xs) (entries xs)

-- the sum of the entries whose choices are in a set; the first entry is the null choice's
unfoldable pub sum_in : List ℤ → ℕ → ℤ
sum_in xs set = sum_to (length xs) (λ k. cond (members set k) (entries xs k) (pos 0))

-- the sum of the products, entry by entry
unfoldable pub dot_of : List ℤ → List ℤ → ℤ
dot_of xs ys = dot_to (length xs) (entries xs) (entries ys)
