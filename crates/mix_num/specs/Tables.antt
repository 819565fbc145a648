-- Tables with a number for each set of choices, the bundles that fit them, and the order of bundles.
use Rattle.std.specs.Prelude.{◌≡◌, ◌≢◌, ℕ, suc, ◌-◌, ◌^◌, ◌<◌, ℤ, pos, ◌+ℤ◌, ◌-ℤ◌, ◌≤ℤ◌, List, ◌∷◌, length, get_or, bit_and, bit_or}
use Rattle.std.specs.declared.cmp.Ordering.{Ordering}
use Rattle.std.specs.declared.cmp.Ordering.TheVariants.{Greater}
use Rattle.std.specs.Ordering.{int_cmp}
use Rattle.std.specs.Cmp.Lexicographic.{slice_cmp}
use Rattle.mix_num.specs.Sums.{total, sum_in}

-- a table's number of a set
abbrev pub number_of : List ℤ → ℕ → ℤ
number_of table set = get_or table set (pos 0)

-- the set of the choices 0 to n
abbrev pub whole : ℕ → ℕ
whole n = 2 ^ suc n - 1

-- the null share of a bundle: the number of the whole set less all that the bundle has of goods
abbrev pub null_share : ℕ → List ℤ → List ℤ → ℤ
null_share n table bundle = number_of table (whole n) -ℤ total bundle

-- what a bundle has of the choices of a set, its null share among them
abbrev pub share_in : ℕ → List ℤ → List ℤ → ℕ → ℤ
share_in n table bundle set = sum_in (null_share n table bundle ∷ bundle) set

-- the bundle fits the table: no set has more than its number
pub record Fits (n : ℕ) (table bundle : List ℤ) : Type 0 where
  pub size : length bundle ≡ n
  pub within : (set : ℕ) → set < 2 ^ suc n → share_in n table bundle set ≤ℤ number_of table set

-- the table is proper: 0 at the empty set, submodular, growing, and at most 8,000,000
pub record IsProper (n : ℕ) (table : List ℤ) : Type 0 where
  pub size : length table ≡ 2 ^ suc n
  pub empty : number_of table 0 ≡ pos 0
  pub submodular : (a b : ℕ) → a < 2 ^ suc n → b < 2 ^ suc n
      → (number_of table (bit_and a b) +ℤ number_of table (bit_or a b)) ≤ℤ (number_of table a +ℤ number_of table b)
  pub grows : (a b : ℕ) → a < 2 ^ suc n → b < 2 ^ suc n → number_of table a ≤ℤ number_of table (bit_or a b)
  pub bound : (a : ℕ) → a < 2 ^ suc n → number_of table a ≤ℤ pos 8000000

-- the first good in which two bundles differ decides their order
abbrev pub lex_order : List ℤ → List ℤ → Ordering
lex_order a b = slice_cmp int_cmp a b

-- the bundle b is at least a in this order
abbrev pub IsLexAtMost : List ℤ → List ℤ → Type 0
IsLexAtMost a b = lex_order a b ≢ Greater
