-- One turn over the sets of a table: what was added so far, and what is still as it was.
use Rattle.std.proofs.Common.{◌≡◌, ◌∙◌, ℕ, ℤ, ◌<◌, ◌≤◌, ◌+◌, ◌+ℤ◌, pos, List, Bool, true, false, cond, eqb, arith, ap, ap₂, sym, eq-eqb, refl, subst, length, set as put}
use Rattle.std.proofs.lemmas.Int.{ints}
use Rattle.std.proofs.lemmas.Bool.{eqb-true, eqb-false}
use Rattle.std.proofs.lemmas.List.{get_or-set_same, get_or-set_other}
use Rattle.mix_num.specs.Vectors.{members}
use Rattle.mix_num.specs.Tables.{number_of}
use Rattle.mix_num.specs.Subsets.{IsWithout}
use Rattle.mix_num.proofs.Cleared.{cleared_less, rest_below}

-- the sum of a set's number and, where the choice is in it, that of the rest
abbrev pub both_of : List ℤ → ℕ → ℕ → ℕ → ℤ
both_of table choice s rest = number_of table s +ℤ cond (members s choice) (number_of table rest) (pos 0)

rest_alone : (choice s rest : ℕ) → IsWithout choice s rest → IsWithout choice rest rest
rest_alone choice s rest w k = at (eqb k choice) refl
  where
    at : (b : Bool) → eqb k choice ≡ b → members rest k ≡ cond (eqb k choice) false (members rest k)
    at true e = w k ∙ ap (λ (z : Bool). cond z false (members s k)) e ∙ sym (ap (λ (z : Bool). cond z false (members rest k)) e)
    at false e = sym (ap (λ (z : Bool). cond z false (members rest k)) e)

rest_lacks : (choice s rest : ℕ) → IsWithout choice s rest → members rest choice ≡ false
rest_lacks choice s rest w = w choice ∙ ap (λ (z : Bool). cond z false (members s choice)) (eq-eqb choice choice refl)

module _ (old now : List ℤ) (choice s : ℕ) (done : (t rest : ℕ) → t < s → IsWithout choice t rest → number_of now t ≡ both_of old choice t rest) (left : (t : ℕ) → s ≤ t → number_of now t ≡ number_of old t) where
  -- the number of a rest is still as it was
  pub same_sum : (rest : ℕ) → IsWithout choice s rest → both_of now choice s rest ≡ both_of old choice s rest
  same_sum rest w = ap₂ (λ (x y : ℤ). x +ℤ y) (left s (omega arith)) (at (members s choice) refl)
    where
      at : (b : Bool) → members s choice ≡ b → cond (members s choice) (number_of now rest) (pos 0) ≡ cond (members s choice) (number_of old rest) (pos 0)
      at true e =
          let less = cleared_less s choice rest (rest_below choice s rest w) w e in
          let same = done rest rest less (rest_alone choice s rest w) in
          let none = ap (λ (b : Bool). cond b (number_of old rest) (pos 0)) (rest_lacks choice s rest w) in
          let is : number_of now rest ≡ number_of old rest = omega (arith, ints) in
          ap (λ (z : ℤ). cond (members s choice) z (pos 0)) is
      at false e = ap (λ (b : Bool). cond b (number_of now rest) (pos 0)) e ∙ sym (ap (λ (b : Bool). cond b (number_of old rest) (pos 0)) e)

  -- after the turn
  pub done_next : (v : ℤ) → s < length now → ((rest : ℕ) → IsWithout choice s rest → v ≡ both_of now choice s rest) → (t rest : ℕ) → t < s + 1 → IsWithout choice t rest → number_of (put now s v) t ≡ both_of old choice t rest
  done_next v inside is t rest less w = at (eqb t s) refl
    where
      own : t ≡ s → number_of (put now s v) t ≡ both_of old choice t rest
      own e =
          let there = subst (λ (k : ℕ). IsWithout choice k rest) e w in
          ap (λ (k : ℕ). number_of (put now s v) k) e ∙ get_or-set_same now s v (pos 0) inside ∙ is rest there ∙ same_sum rest there ∙ ap (λ (k : ℕ). both_of old choice k rest) (sym e)

      at : (b : Bool) → eqb t s ≡ b → number_of (put now s v) t ≡ both_of old choice t rest
      at true e = own (eqb-true t s e)
      at false e = let d = eqb-false t s e in get_or-set_other now s t v (pos 0) d ∙ done t rest (omega arith) w

  pub left_next : (v : ℤ) → (t : ℕ) → s + 1 ≤ t → number_of (put now s v) t ≡ number_of old t
  left_next v t h = get_or-set_other now s t v (pos 0) (λ e. omega arith) ∙ left t (omega arith)
