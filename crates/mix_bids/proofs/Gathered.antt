-- A set of choices that is gathered choice by choice.
use Rattle.std.proofs.Common.{◌≡◌, ◌+◌, ◌∙◌, ℕ, Bool, true, false, ap, arith, cond, eqb, ltb, refl, sym}
use Rattle.std.proofs.lemmas.Bool.Decides.{nat_tests}
use Rattle.std.proofs.lemmas.Bool.{eqb-true}
use Rattle.mix_num.specs.Vectors.{Choices, members}
use Rattle.mix_bids.proofs.Cases.{by_test}

-- one choice more is looked at
pub gathered_step : (m s s' : ℕ) (t : Choices) (v : Bool) → v ≡ t m → ((k : ℕ) → members s k ≡ cond (ltb k m) (t k) false)
    → ((k : ℕ) → members s' k ≡ cond (eqb k m) (cond v true (members s k)) (members s k)) → (k : ℕ) → members s' k ≡ cond (ltb k (m + 1)) (t k) false
gathered_step m s s' t v e h g k = g k ∙ by_test (eqb k m)
    (λ q.
    let i : k ≡ m = eqb-true k m q in
    let a : ltb k m ≡ false = grind (arith, nat_tests) in
    let b : ltb k (m + 1) ≡ true = grind (arith, nat_tests) in
    ap (λ z. cond z (cond v true (members s k)) (members s k)) q
    ∙ ap (cond v true) (h k ∙ ap (λ z. cond z (t k) false) a)
    ∙ only v ∙ e ∙ ap t (sym i) ∙ ap (λ z. cond z (t k) false) (sym b))
    (λ q.
    let a : ltb k (m + 1) ≡ ltb k m = grind (arith, nat_tests) in
    ap (λ z. cond z (cond v true (members s k)) (members s k)) q ∙ h k ∙ ap (λ z. cond z (t k) false) (sym a))
  where
    only : (v : Bool) → cond v true false ≡ v
    only true = refl
    only false = refl
