-- Drawing: taking words one after the other.
use Rattle.std.specs.Prelude.{ℕ, zero, suc, ◌%◌, List, [], ◌∷◌, ◌++◌}
use Rattle.mix_trial.specs.Words.{Words}

-- what a drawing gives, and the words after those that it takes
abbrev pub Drawing : Type 0 → Type 0
Drawing X = Words → X × Words

-- the next word modulo m
abbrev pub drawn : ℕ → Drawing ℕ
drawn m words = (words 0 % m, λ k. words (suc k))

-- a drawing of a list of one
abbrev pub alone : {X : Type 0} → Drawing X → Drawing (List X)
alone draw words = ((draw words).0 ∷ [], (draw words).1)

-- drawings for each of n numbers in order, from k on: all that they give
unfoldable pub for_each : {X : Type 0} → ℕ → ℕ → (ℕ → Drawing (List X)) → Drawing (List X)
for_each zero k draw words = ([], words)
for_each (suc n) k draw words = let first = draw k words in let rest = for_each n (suc k) draw first.1 in (first.0 ++ rest.0, rest.1)
