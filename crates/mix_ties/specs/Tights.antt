-- The first tight pairs of the bidders.
use Rattle.std.specs.Prelude.{ℕ, suc, ◌+◌, ◌*◌, ◌<◌, ℤ, List, length, get_or}
use Rattle.mix_num.specs.Pairs.{IsFirstTightOf}
use Rattle.mix_num.specs.declared.pair.Tight.{Tight}

-- for each bidder in order, and each good in order, its first tight pair; the last row is the seller's, which has none
abbrev pub AreFirstTights : ℕ → List (List ℤ) → List ℤ → List (List ℤ) → List Tight → Type 0
AreFirstTights n rows supply bundles tights =
    (k j : ℕ) (d : Tight) → suc k < length rows → j < n → IsFirstTightOf n rows supply bundles k j (get_or tights (k * n + j) d).upper (get_or tights (k * n + j) d).lower
