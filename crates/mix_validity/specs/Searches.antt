-- How far a list has been searched for a facet of negative weight. For proofs; no public clause rests on it.
use Rattle.std.specs.Prelude.{◌≡◌, ℕ, ◌<◌, ◌≤◌, ℤ, pos, ◌-ℤ◌, ◌≤ℤ◌}
use Rattle.mix_num.specs.Vectors.{Vector}
use Rattle.mix_bids.specs.Bids.{Book, facet_weight}

-- no facet weight of i and j is negative at any vector
abbrev pub IsClear : Book → ℕ → ℕ → Type 0
IsClear book i j = (x : Vector) → pos 0 ≤ℤ facet_weight book.goods i j book.bids x

-- none is negative where the prices of i and j differ by d
abbrev pub IsClearAt : Book → ℕ → ℕ → ℤ → Type 0
IsClearAt book i j d = (x : Vector) → x i -ℤ x j ≡ d → pos 0 ≤ℤ facet_weight book.goods i j book.bids x

-- no choice after i has a negative facet weight with it
abbrev pub IsClearFrom : Book → ℕ → Type 0
IsClearFrom book i = (j : ℕ) → i < j → j ≤ book.goods → IsClear book i j
