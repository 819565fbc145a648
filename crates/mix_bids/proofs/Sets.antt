-- What the tests of sets say of the choices below a number: one set lies in another, is the same, or shares a choice with it.
use Rattle.std.proofs.Common.{◌≡◌, ℕ, zero, suc, ◌<◌, ◌⊎◌, inl, inr, Bool, true, false, not, cond, refl, arith, sym, ap, ◌∙◌, eq-or-lt_of_le, true≢false}
use Rattle.std.proofs.lemmas.Bool.{false≢true}
use Rattle.mix_num.specs.Vectors.{Choices}
use Rattle.mix_bids.specs.Offers.{all_to, within, same_set}
use Rattle.mix_bids.proofs.Cases.{by_test}

pub all_to-true : (m : ℕ) (p : Choices) → all_to m p ≡ true → (k : ℕ) → k < m → p k ≡ true
all_to-true zero p h k l = absurd (omega arith)
all_to-true (suc m) p h k l =
    by_test (p m) (λ a. all_step m p k a (λ q. all_to-true m p (sym (ap (λ z. cond z (all_to m p) false) a) ∙ h) k q) (eq-or-lt_of_le (omega arith)))
    (λ a. absurd (false≢true (sym (ap (λ z. cond z (all_to m p) false) a) ∙ h)))
  where
    all_step : (m : ℕ) (p : Choices) (k : ℕ) → p m ≡ true → (k < m → p k ≡ true) → (k ≡ m) ⊎ (k < m) → p k ≡ true
    all_step m p k a f (inl e) = ap p e ∙ a
    all_step m p k a f (inr q) = f q

pub all_to-false : (m : ℕ) (p : Choices) → all_to m p ≡ false → (k : ℕ) × (k < m) × (p k ≡ false)
all_to-false zero p h = absurd (true≢false h)
all_to-false (suc m) p h =
    by_test (p m) (λ a. let r = all_to-false m p (sym (ap (λ z. cond z (all_to m p) false) a) ∙ h) in let q = r.1 in (r.0, omega arith, r.2))
    (λ a. (m, omega arith, a))

pub all_to-intro : (m : ℕ) (p : Choices) → ((k : ℕ) → k < m → p k ≡ true) → all_to m p ≡ true
all_to-intro zero p h = refl
all_to-intro (suc m) p h = ap (λ z. cond z (all_to m p) false) (h m (omega arith)) ∙ all_to-intro m p (λ k l. h k (omega arith))

-- one set lies in another
pub within-true : (m : ℕ) (s t : Choices) → within m s t ≡ true → (k : ℕ) → k < m → s k ≡ true → t k ≡ true
within-true m s t h k l e = sym (ap (λ z. cond z (t k) true) e) ∙ all_to-true m (λ k. cond (s k) (t k) true) h k l

within_at : (a b : Bool) → cond a b true ≡ false → (a ≡ true) × (b ≡ false)
within_at true b h = (refl, h)
within_at false b h = absurd (true≢false h)

pub within-false : (m : ℕ) (s t : Choices) → within m s t ≡ false → (k : ℕ) × (k < m) × (s k ≡ true) × (t k ≡ false)
within-false m s t h =
    let r = all_to-false m (λ k. cond (s k) (t k) true) h in
    let q = within_at (s r.0) (t r.0) r.2 in
    (r.0, r.1, q.0, q.1)

within_of : (a b : Bool) → (a ≡ true → b ≡ true) → cond a b true ≡ true
within_of true b h = h refl
within_of false b h = refl

pub within-intro : (m : ℕ) (s t : Choices) → ((k : ℕ) → k < m → s k ≡ true → t k ≡ true) → within m s t ≡ true
within-intro m s t h = all_to-intro m (λ k. cond (s k) (t k) true) (λ k l. within_of (s k) (t k) (h k l))

-- two sets are the same
same_at : (a b : Bool) → cond a b (not b) ≡ true → a ≡ b
same_at true b h = sym h
same_at false true h = h
same_at false false h = refl

same_of : (a b : Bool) → a ≡ b → cond a b (not b) ≡ true
same_of true b h = sym h
same_of false true h = h
same_of false false h = refl

pub same_set-true : (m : ℕ) (s t : Choices) → same_set m s t ≡ true → (k : ℕ) → k < m → s k ≡ t k
same_set-true m s t h k l = same_at (s k) (t k) (all_to-true m (λ k. cond (s k) (t k) (not (t k))) h k l)

pub same_set-intro : (m : ℕ) (s t : Choices) → ((k : ℕ) → k < m → s k ≡ t k) → same_set m s t ≡ true
same_set-intro m s t h = all_to-intro m (λ k. cond (s k) (t k) (not (t k))) (λ k l. same_of (s k) (t k) (h k l))
