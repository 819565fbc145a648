-- Tables as lists of numbers, one for each set by the number of its bits: the null choice is bit 0, good i is bit i. For proofs; no public
-- clause rests on it.
use Rattle.std.specs.Prelude.{◌≡◌, ℕ, zero, suc, ◌+◌, ◌*◌, ◌/◌, ◌%◌, ◌^◌, ◌<◌, ◌-◌, Bool, true, false, cond, ◌==◌, ℤ, pos, ◌-ℤ◌, List, [], ◌∷◌}
use Rattle.std.specs.Int.{int_min, int_max}
use Rattle.mix_num.specs.Ranges.{Lies}
use Rattle.mix_num.specs.Sums.{total, sum_in}
use Rattle.mix_num.specs.Tables.{number_of, whole}
use Rattle.mix_ties.specs.Peeled.{Subset, Amounts, greedy}

-- the set of a number with a good put in before its first good: the new good's bit becomes bit 1
abbrev pub with_first : Bool → ℕ → ℕ
with_first b set = (set / 2 * 2 + cond b 1 0) * 2 + set % 2

-- the set of a number with its first good, bit 1, taken out
abbrev pub less_first : ℕ → ℕ
less_first set = set / 4 * 2 + set % 2

-- the number of a set of n goods and the null choice, and the set of a number
abbrev pub number : (n : ℕ) → Subset (suc n) → ℕ
number zero s = cond s.0 1 0
number (suc n) s = with_first s.0 (number n s.1)

abbrev pub subset : (n : ℕ) → ℕ → Subset (suc n)
subset zero set = (set % 2 == 1, tt)
subset (suc n) set = (set / 2 % 2 == 1, subset n (less_first set))

-- a list of numbers as a table over n goods and the null choice
abbrev pub table_over : (n : ℕ) → List ℤ → Subset (suc n) → ℤ
table_over n table s = number_of table (number n s)

-- a bundle with its null share as amounts of all choices
abbrev pub amounts_of : (n : ℕ) → ℤ → List ℤ → Amounts (suc n)
amounts_of zero null bundle = (null, tt)
amounts_of (suc n) null [] = (pos 0, amounts_of n null [])
amounts_of (suc n) null (x ∷ xs) = (x, amounts_of n null xs)

-- the goods of amounts, and their null share
abbrev pub goods_part : (n : ℕ) → Amounts (suc n) → List ℤ
goods_part zero y = []
goods_part (suc n) y = y.0 ∷ goods_part n y.1

abbrev pub null_part : (n : ℕ) → Amounts (suc n) → ℤ
null_part zero y = y.0
null_part (suc n) y = null_part n y.1

-- the first numbers of a table lie within a bound
abbrev pub LieWithin : ℕ → ℕ → List ℤ → Type 0
LieWithin size bound table = (set : ℕ) → set < size → Lies bound (number_of table set)

-- what the numbers of a table over the last k of at most eight goods stay within
unfoldable pub room : ℕ → ℕ
room k = 2 ^ (44 + 2 * (8 - k))

-- the numbers of an upper table without the first good, once that has the amount
abbrev pub IsCut : ℕ → List ℤ → List ℤ → ℤ → Type 0
IsCut half old new amount =
    (set : ℕ) → set < half → number_of new set ≡ int_min (number_of old (with_first false set)) (number_of old (with_first true set) -ℤ amount)

-- the numbers of a lower table without the first good, once that has the amount
abbrev pub IsLift : ℕ → List ℤ → List ℤ → ℤ → Type 0
IsLift half old new amount =
    (set : ℕ) → set < half → number_of new set ≡ int_max (number_of old (with_first false set)) (number_of old (with_first true set) -ℤ amount)

-- how far an upper table with the first good is above a lower table without it
abbrev pub first_gap : List ℤ → List ℤ → ℕ → ℤ
first_gap upper lower set = number_of upper (with_first true set) -ℤ number_of lower (with_first false set)

-- the first of k + 1 goods has its greatest amount, and the new tables are those over the k goods after it
unfoldable pub IsGiven : ℕ → List ℤ → List ℤ → ℤ → List ℤ → List ℤ → Type 0
IsGiven k upper lower amount upper' lower' =
    goods_part (suc k) (greedy (suc (suc k)) (table_over (suc k) upper) (table_over (suc k) lower))
    ≡ amount ∷ goods_part k (greedy (suc k) (table_over k upper') (table_over k lower'))

-- what is left of a supply at each set, less what the later rows take there
abbrev pub floor_over : (n : ℕ) → ℤ → List ℤ → List ℤ → Subset (suc n) → ℤ
floor_over n null left later s = sum_in (null ∷ left) (number n s) -ℤ number_of later (number n s)

-- the null share of what is left, where `later` is the sum of the rows that share it
abbrev pub null_left : ℕ → List ℤ → List ℤ → ℤ
null_left n later left = number_of later (whole n) -ℤ total left

-- number by number: a difference of two tables, a copy, and what is left of a supply less the later rows
abbrev pub IsDifference : ℕ → List ℤ → List ℤ → List ℤ → Type 0
IsDifference size old row new = (set : ℕ) → set < size → number_of new set ≡ number_of old set -ℤ number_of row set

abbrev pub IsCopy : ℕ → List ℤ → List ℤ → Type 0
IsCopy size row new = (set : ℕ) → set < size → number_of new set ≡ number_of row set

abbrev pub IsFloor : ℕ → ℤ → List ℤ → List ℤ → List ℤ → Type 0
IsFloor size null left later new = (set : ℕ) → set < size → number_of new set ≡ sum_in (null ∷ left) set -ℤ number_of later set
