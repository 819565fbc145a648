-- Prices moved along a set: what it means to raise or lower each good of a set by the same amount.
use Rattle.std.specs.Prelude.{◌≡◌, ℕ, ◌≤◌, ◌<◌, ◌+◌, ◌^◌, false, cond, ℤ, pos, ◌+ℤ◌, ◌-ℤ◌}
use Rattle.mix_num.specs.Vectors.{Vector, Choices, members}
use Rattle.mix_num.specs.Ranges.{Lies}
use Rattle.mix_num.specs.declared.limits.TheConstants.{PRICE_BOUND}

-- each member's entry raised by an amount
abbrev pub raised : Vector → Choices → ℤ → Vector
raised x s by = λ k. x k +ℤ cond (s k) by (pos 0)

-- each member's entry lowered by an amount
abbrev pub lowered : Vector → Choices → ℤ → Vector
lowered x s by = λ k. x k -ℤ cond (s k) by (pos 0)

-- the number of a set of some of the goods 1 to n
abbrev pub IsSetOfGoods : ℕ → ℕ → Type 0
IsSetOfGoods n set = (set < 2 ^ (n + 1)) × (members set 0 ≡ false)

-- no entry of the choices 0 to n lies further from 0 than any price may
abbrev pub AreEntries : ℕ → Vector → Type 0
AreEntries n x = (k : ℕ) → k ≤ n → Lies PRICE_BOUND (x k)
