-- The words of a number: those that its generator gives, one after the other.
use Rattle.std.specs.Prelude.{ℕ, zero, suc}
use Rattle.rand_core.specs.Pcg32Seed.{pcg32_seed}
use Rattle.rand_pcg.specs.Lcg.{Lcg}
use Rattle.rand_pcg.specs.Pcg.{pcg32, pcg32_of_seed}

-- words without end, each by its number, from 0
abbrev pub Words : Type 0
Words = ℕ → ℕ

-- the word of a generator with this number, from 0
unfoldable pub word_at : ℕ → Lcg → ℕ
word_at zero g = (pcg32 g).0
word_at (suc k) g = word_at k (pcg32 g).1

-- the words of a generator
abbrev pub words_of : Lcg → Words
words_of g = λ k. word_at k g

-- the generator of a number
abbrev pub generator_of : ℕ → Lcg
generator_of seed = pcg32_of_seed (pcg32_seed 16 seed)
