-- The first word of a generator, and those after it.
use Rattle.std.proofs.Common.{◌≡◌, ap, refl, suc}
use Rattle.rand_pcg.specs.Lcg.{Lcg}
use Rattle.rand_pcg.specs.Pcg.{pcg32}
use Rattle.mix_trial.specs.Words.{word_at, words_of}

pub first_word : (g : Lcg) → words_of g 0 ≡ (pcg32 g).0
unfolding word_at
first_word g = refl

pub later_words : (g h : Lcg) → h ≡ (pcg32 g).1 → words_of h ≡ (λ k. words_of g (suc k))
unfolding word_at
later_words g h e = ap words_of e
