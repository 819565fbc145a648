-- A test of each number below a bound, one step at a time.
use Rattle.std.proofs.Common.{◌≡◌, ℕ, ◌+◌, ◌<◌, true, false, cond, sym, ap, ◌∙◌, add-one}
use Rattle.std.proofs.lemmas.Bool.{false≢true}
use Rattle.mix_num.specs.Vectors.{Choices}
use Rattle.mix_bids.specs.Offers.{all_to}
use Rattle.mix_bids.proofs.Cases.{not_true}
use Rattle.mix_bids.proofs.Sets.{all_to-true}

-- one more number passes
pub all_to_more : (m : ℕ) (p : Choices) → all_to m p ≡ true → p m ≡ true → all_to (m + 1) p ≡ true
all_to_more m p h e = ap (λ n. all_to n p) (add-one m) ∙ ap (λ z. cond z (all_to m p) false) e ∙ h

-- one number fails
pub all_to_less : (m : ℕ) (p : Choices) (k : ℕ) → k < m → false ≡ p k → false ≡ all_to m p
all_to_less m p k l e = sym (not_true (all_to m p) (λ h. false≢true (e ∙ all_to-true m p h k l)))

-- the bound is reached
pub all_to_reach : (m k : ℕ) (p : Choices) → m ≡ k → all_to k p ≡ true → true ≡ all_to m p
all_to_reach m k p e h = sym (ap (λ n. all_to n p) e ∙ h)
