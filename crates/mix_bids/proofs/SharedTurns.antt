-- One agreement more is looked at for what the earlier bids of a level share with a new one.
use Rattle.std.proofs.Common.{◌≡◌, ◌<◌, ◌+◌, ◌∙◌, ℕ, ◌⊎◌, inl, inr, Bool, true, false, cond, List, Option, Some, None, ap, arith, below_more, refl, eq-or-lt_of_le, sym}
use Rattle.std.proofs.lemmas.Bool.{false≢true}
use Rattle.mix_num.specs.Vectors.{Choices, members}
use Rattle.mix_bids.specs.Shared.{agreeing, agreement_in, IsLast, IsShared}
use Rattle.mix_bids.specs.declared.agreements.Agreement.{Agreement}
use Rattle.mix_bids.proofs.Cases.{by_test}

-- a number below m + 1 is m or is below m
split : (p m : ℕ) → p < m + 1 → (p ≡ m) ⊎ (p < m)
split p m l = eq-or-lt_of_le (omega arith)

pub last_found : (t : Choices) (m : ℕ) → t m ≡ true → IsLast t (m + 1) (Some m)
last_found t m h = (omega arith, h, λ p l r. absurd (omega arith))

pub last_left : (t : Choices) (m : ℕ) (o : Option ℕ) → t m ≡ false → IsLast t m o → IsLast t (m + 1) o
last_left t m None h i = below_more (λ p. t p ≡ false) m i h
last_left t m (Some q) h i = let l = i.0 in (omega arith, i.1, λ p a b. at p a (split p m b))
  where
    at : (p : ℕ) → q < p → (p ≡ m) ⊎ (p < m) → t p ≡ false
    at p a (inl e) = ap t e ∙ h
    at p a (inr b) = i.2 p a b

pub shared_found : (rs : List Agreement) (i j m s u : ℕ) → agreeing (agreement_in rs m) j i ≡ true → IsShared rs i j m s
    → ((k : ℕ) → members u k ≡ cond (members s k) true (agreeing (agreement_in rs m) j k)) → IsShared rs i j (m + 1) u
shared_found rs i j m s u h r g = record {
  met = λ c e. by_test (members s c)
      (λ t. let q = r.met c t in let l = q.1 in (q.0, omega arith, q.2, q.3))
      (λ t. (m, omega arith, h, sym (g c ∙ ap (λ z. cond z true (agreeing (agreement_in rs m) j c)) t) ∙ e));
  all = λ c p l a b. at c p a b (split p m l);
}
  where
    new : (x y : Bool) → y ≡ true → cond x true y ≡ true
    new true y e = refl
    new false y e = e

    old : (x y : Bool) → x ≡ true → cond x true y ≡ true
    old true y e = refl
    old false y e = absurd (false≢true e)

    at : (c p : ℕ) → agreeing (agreement_in rs p) j i ≡ true → agreeing (agreement_in rs p) j c ≡ true → (p ≡ m) ⊎ (p < m) → members u c ≡ true
    at c p a b (inl e) = g c ∙ new (members s c) _ (ap (λ z. agreeing (agreement_in rs z) j c) (sym e) ∙ b)
    at c p a b (inr l) = g c ∙ old (members s c) _ (r.all c p l a b)

pub shared_left : (rs : List Agreement) (i j m s : ℕ) → agreeing (agreement_in rs m) j i ≡ false → IsShared rs i j m s → IsShared rs i j (m + 1) s
shared_left rs i j m s h r = record {
  met = λ c e. let q = r.met c e in let l = q.1 in (q.0, omega arith, q.2, q.3);
  all = λ c p l a b. at c p a b (split p m l);
}
  where
    at : (c p : ℕ) → agreeing (agreement_in rs p) j i ≡ true → agreeing (agreement_in rs p) j c ≡ true → (p ≡ m) ⊎ (p < m) → members s c ≡ true
    at c p a b (inl e) = absurd (false≢true (sym h ∙ ap (λ z. agreeing (agreement_in rs z) j i) (sym e) ∙ a))
    at c p a b (inr l) = r.all c p l a b
