-- Sums over subsets, one choice after the other: after the choices below c, each number is the sum over the sets that differ from its own
-- in having fewer of these choices.
use Rattle.std.proofs.Common.{◌≡◌, ◌≢◌, ℕ, zero, suc, ◌^◌, ◌≤◌, ◌<◌, Bool, true, false, cond, not, eqb, ltb, List, ℤ, pos, ◌+ℤ◌, ◌-ℤ◌, ◌≤ℤ◌, refl, arith, sym, ap, ap₂, ◌∙◌}
use Rattle.std.proofs.lemmas.Int.{ints, clamps}
use Rattle.std.proofs.lemmas.Bool.{eqb-true, eqb-false, eq-eqb, ltb-true, ltb-false, lt-ltb, false≢true}
use Rattle.std.specs.Int.{int_max}
use Rattle.mix_num.specs.Vectors.{Vector, Choices, members, sum_to}
use Rattle.mix_num.specs.Ranges.{Lies}
use Rattle.mix_num.specs.Tables.{number_of}
use Rattle.mix_num.proofs.Masks.{same_members, members_above}
use Rattle.mix_num.proofs.Additions.{sum_to-same, sum_to-one, sum_to-grows}
use Rattle.mix_num.specs.Subsets.{IsWithout, all_below, lies_in, sizes, subset_sum}

-- whether t may lack a choice k of s: below c it may, from c on the two have the same choices
abbrev pub may : ℕ → Choices → Choices → ℕ → Bool
may c t s k = cond (ltb k c) (cond (t k) (s k) true) (cond (t k) (s k) (not (s k)))

-- the sum after the choices below c
pub partial : List ℤ → ℕ → ℕ → ℤ
partial table c s = sum_to 512 (λ t. cond (all_below 9 (may c (members t) (members s))) (number_of table t) (pos 0))

all_same : (m : ℕ) (p q : Choices) → ((k : ℕ) → k < m → p k ≡ q k) → all_below m p ≡ all_below m q
all_same zero p q h = refl
all_same (suc m) p q h = ap₂ (λ (a b : Bool). cond a b false) (h m (omega arith)) (all_same m p q (λ k l. h k (omega arith)))

all_at : (m : ℕ) (p : Choices) → all_below m p ≡ true → (k : ℕ) → k < m → p k ≡ true
all_at zero p h k l = absurd (omega arith)
all_at (suc m) p h k l = at (p m) refl (eqb k m) refl (λ e i. all_at m p e k i)
  where
    at : (a : Bool) → p m ≡ a → (b : Bool) → eqb k m ≡ b → (all_below m p ≡ true → k < m → p k ≡ true) → p k ≡ true
    at true e true f rest = ap p (eqb-true k m f) ∙ e
    at true e false f rest = let d = eqb-false k m f in rest (sym (ap (λ (z : Bool). cond z (all_below m p) false) e) ∙ h) (omega arith)
    at false e b f rest = absurd (false≢true (sym (ap (λ (z : Bool). cond z (all_below m p) false) e) ∙ h))

all_true : (m : ℕ) (p : Choices) → ((k : ℕ) → k < m → p k ≡ true) → all_below m p ≡ true
all_true zero p h = refl
all_true (suc m) p h = ap₂ (λ (a b : Bool). cond a b false) (h m (omega arith)) (all_true m p (λ k l. h k (omega arith)))

ltb_no : (a b : ℕ) → b ≤ a → ltb a b ≡ false
ltb_no a b h = at (ltb a b) refl
  where
    at : (d : Bool) → ltb a b ≡ d → d ≡ false
    at true e = let l = ltb-true a b e in absurd (omega arith)
    at false e = refl

-- the number counted where a test holds
abbrev where_ : Bool → ℤ → ℤ
where_ b v = cond b v (pos 0)

-- one choice more: the sets that have it as s does, and, where s has it, those that have it as the rest does, which hasn't
module _ (c : ℕ) (t s r : Choices) (rest : (k : ℕ) → r k ≡ cond (eqb k c) false (s k)) where
  other_rest : (k : ℕ) → k ≢ c → r k ≡ s k
  other_rest k d = at (eqb k c) refl
    where
      at : (b : Bool) → eqb k c ≡ b → r k ≡ s k
      at true e = absurd (d (eqb-true k c e))
      at false e = rest k ∙ ap (λ (z : Bool). cond z false (s k)) e

  own_rest : r c ≡ false
  own_rest = rest c ∙ ap (λ (z : Bool). cond z false (s c)) (eq-eqb c c refl)

  below : (m : ℕ) → m ≤ c → (all_below m (may (suc c) t s) ≡ all_below m (may c t s)) × (all_below m (may c t r) ≡ all_below m (may c t s))
  below m h = (
    all_same m (may (suc c) t s) (may c t s) (λ k l. ap (λ (z : Bool). cond z (cond (t k) (s k) true) (cond (t k) (s k) (not (s k)))) (lt-ltb k (suc c) (omega arith) ∙ sym (lt-ltb k c (omega arith)))),
    all_same m (may c t r) (may c t s) (λ k l. ap (λ (z : Bool). cond (ltb k c) (cond (t k) z true) (cond (t k) z (not z))) (other_rest k (λ e. omega arith))),
  )

  split : (v : ℤ) (m : ℕ) → c < m → where_ (all_below m (may (suc c) t s)) v ≡ where_ (all_below m (may c t s)) v +ℤ cond (s c) (where_ (all_below m (may c t r)) v) (pos 0)
  split v zero h = absurd (omega arith)
  split v (suc m) h = at (eqb m c) refl (λ i. split v m i)
    where
      own : (a b d : Bool) → where_ (cond (cond a b true) d false) v ≡ where_ (cond (cond a b (not b)) d false) v +ℤ cond b (where_ (cond (not a) d false) v) (pos 0)
      own true true d = omega (arith, ints)
      own true false d = omega (arith, ints)
      own false true d = omega (arith, ints)
      own false false d = omega (arith, ints)

      same : (f d e g : Bool) (b : Bool) → where_ d v ≡ where_ e v +ℤ cond b (where_ g v) (pos 0) → where_ (cond f d false) v ≡ where_ (cond f e false) v +ℤ cond b (where_ (cond f g false) v) (pos 0)
      same true d e g b q = q
      same false d e g true q = omega (arith, ints)
      same false d e g false q = omega (arith, ints)

      no_member : (a : Bool) → cond a false (not false) ≡ not a
      no_member true = refl
      no_member false = refl

      at : (b : Bool) → eqb m c ≡ b → (c < m → where_ (all_below m (may (suc c) t s)) v ≡ where_ (all_below m (may c t s)) v +ℤ cond (s c) (where_ (all_below m (may c t r)) v) (pos 0)) → where_ (all_below (suc m) (may (suc c) t s)) v ≡ where_ (all_below (suc m) (may c t s)) v +ℤ cond (s c) (where_ (all_below (suc m) (may c t r)) v) (pos 0)
      at true e prior =
          let is = eqb-true m c e in
          let low = below m (omega arith) in
          let one : may (suc c) t s m ≡ cond (t m) (s m) true = ap (λ (z : Bool). cond z (cond (t m) (s m) true) (cond (t m) (s m) (not (s m)))) (lt-ltb m (suc c) (omega arith)) in
          let two : may c t s m ≡ cond (t m) (s m) (not (s m)) = ap (λ (z : Bool). cond z (cond (t m) (s m) true) (cond (t m) (s m) (not (s m)))) (ltb_no m c (omega arith)) in
          let three : may c t r m ≡ not (t m) = ap (λ (z : Bool). cond z (cond (t m) (r m) true) (cond (t m) (r m) (not (r m)))) (ltb_no m c (omega arith)) ∙ ap (λ (z : Bool). cond (t m) z (not z)) (ap r is ∙ own_rest) ∙ no_member (t m) in
          let a = ap₂ (λ (f d : Bool). where_ (cond f d false) v) one low.0 in
          let b = ap (λ (f : Bool). where_ (cond f (all_below m (may c t s)) false) v) two in
          let d = ap₂ (λ (f g : Bool). where_ (cond f g false) v) three low.1 in
          let member = ap s is in
          a ∙ own (t m) (s m) (all_below m (may c t s)) ∙ ap₂ (λ (x y : ℤ). x +ℤ y) (sym b) (ap₂ (λ (z : Bool) (y : ℤ). cond z y (pos 0)) member (sym d))
      at false e prior =
          let other = eqb-false m c e in
          let before = prior (omega arith) in
          let one : may (suc c) t s m ≡ may c t s m = ap (λ (z : Bool). cond z (cond (t m) (s m) true) (cond (t m) (s m) (not (s m)))) (ltb_no m (suc c) (omega arith) ∙ sym (ltb_no m c (omega arith))) in
          let two : may c t r m ≡ may c t s m = ap (λ (z : Bool). cond (ltb m c) (cond (t m) z true) (cond (t m) z (not z))) (other_rest m other) in
          let a = ap (λ (f : Bool). where_ (cond f (all_below m (may (suc c) t s)) false) v) one in
          let b = ap (λ (f : Bool). where_ (cond f (all_below m (may c t r)) false) v) two in
          a ∙ same (may c t s m) (all_below m (may (suc c) t s)) (all_below m (may c t s)) (all_below m (may c t r)) (s c) before ∙ ap (λ (y : ℤ). where_ (cond (may c t s m) (all_below m (may c t s)) false) v +ℤ cond (s c) y (pos 0)) (sym b)

sum_to-sum : (m : ℕ) (x y : Vector) → sum_to m (λ k. x k +ℤ y k) ≡ sum_to m x +ℤ sum_to m y
sum_to-sum zero x y = refl
sum_to-sum (suc m) x y = let h = sum_to-sum m x y in omega (arith, ints)

sum_to-where : (m : ℕ) (b : Bool) (x : Vector) → sum_to m (λ k. cond b (x k) (pos 0)) ≡ cond b (sum_to m x) (pos 0)
sum_to-where m true x = refl
sum_to-where m false x = zeros m
  where
    zeros : (m : ℕ) → sum_to m (λ k. pos 0) ≡ pos 0
    zeros zero = refl
    zeros (suc m) = let h = zeros m in omega (arith, ints)

-- one choice more
pub partial_next : (table : List ℤ) (c s rest : ℕ) → c < 9 → IsWithout c s rest → partial table (suc c) s ≡ partial table c s +ℤ cond (members s c) (partial table c rest) (pos 0)
unfolding partial
partial_next table c s rest h r =
    sum_to-same 512 _ _ (λ t l. split c (members t) (members s) (members rest) r (number_of table t) 9 h)
    ∙ sum_to-sum 512 (λ t. cond (all_below 9 (may c (members t) (members s))) (number_of table t) (pos 0)) (λ t. cond (members s c) (cond (all_below 9 (may c (members t) (members rest))) (number_of table t) (pos 0)) (pos 0))
    ∙ ap (λ (y : ℤ). sum_to 512 (λ t. cond (all_below 9 (may c (members t) (members s))) (number_of table t) (pos 0)) +ℤ y) (sum_to-where 512 (members s c) (λ t. cond (all_below 9 (may c (members t) (members rest))) (number_of table t) (pos 0)))

-- no choice yet
pub partial_none : (table : List ℤ) (s : ℕ) → s < 512 → partial table 0 s ≡ number_of table s
unfolding partial
partial_none table s small =
    sum_to-one 512 s (λ t. cond (all_below 9 (may 0 (members t) (members s))) (number_of table t) (pos 0)) small (λ t l d. at t l d (all_below 9 (may 0 (members t) (members s))) refl)
    ∙ ap (λ (b : Bool). cond b (number_of table s) (pos 0)) (all_true 9 (may 0 (members s) (members s)) (λ k l. self k (members s k)))
  where
    self : (k : ℕ) (b : Bool) → cond (ltb k 0) (cond b b true) (cond b b (not b)) ≡ true
    self k true = both (ltb k 0)
      where
        both : (d : Bool) → cond d true true ≡ true
        both true = refl
        both false = refl
    self k false = both (ltb k 0)
      where
        both : (d : Bool) → cond d true true ≡ true
        both true = refl
        both false = refl

    alike : (d a b : Bool) → d ≡ false → cond d (cond a b true) (cond a b (not b)) ≡ true → a ≡ b
    alike true a b e f = absurd (false≢true (sym e))
    alike false true true e f = refl
    alike false true false e f = sym f
    alike false false true e f = f
    alike false false false e f = refl

    at : (t : ℕ) → t < 512 → t ≢ s → (b : Bool) → all_below 9 (may 0 (members t) (members s)) ≡ b → cond b (number_of table t) (pos 0) ≡ pos 0
    at t l d true e = absurd (d (same_members 9 t s l small (λ k i. alike (ltb k 0) (members t k) (members s k) (ltb_no k 0 (omega arith)) (all_at 9 (may 0 (members t) (members s)) e k i))))
    at t l d false e = refl

-- all choices of the set
pub partial_all : (table : List ℤ) (n s : ℕ) → s < 2 ^ suc n → partial table (suc n) s ≡ subset_sum table s
unfolding partial subset_sum lies_in
partial_all table n s small = sum_to-same 512 _ _ (λ t l. ap (λ (b : Bool). cond b (number_of table t) (pos 0)) (all_same 9 (may (suc n) (members t) (members s)) (λ k. cond (members t k) (members s k) true) (λ k i. at k (ltb k (suc n)) refl (members t k))))
  where
    at : (k : ℕ) (b : Bool) → ltb k (suc n) ≡ b → (a : Bool) → cond (ltb k (suc n)) (cond a (members s k) true) (cond a (members s k) (not (members s k))) ≡ cond a (members s k) true
    at k true e a = ap (λ (z : Bool). cond z (cond a (members s k) true) (cond a (members s k) (not (members s k)))) e
    at k false e a =
        ap (λ (z : Bool). cond z (cond a (members s k) true) (cond a (members s k) (not (members s k)))) e
        ∙ ap (λ (z : Bool). cond a z (not z)) (members_above s (suc n) k small (ltb-false k (suc n) e))
        ∙ sym (ap (λ (z : Bool). cond a z true) (members_above s (suc n) k small (ltb-false k (suc n) e)))

sum_to-negative : (m : ℕ) (x : Vector) → sum_to m (λ t. pos 0 -ℤ x t) ≡ pos 0 -ℤ sum_to m x
sum_to-negative zero x = refl
sum_to-negative (suc m) x = let h = sum_to-negative m x in omega (arith, ints)

small_sum : (m : ℕ) (x size : Vector) → ((t : ℕ) → t < m → x t ≤ℤ size t) → ((t : ℕ) → t < m → (pos 0 -ℤ x t) ≤ℤ size t) → sum_to m size ≤ℤ pos 4000000000 → Lies 4000000000 (sum_to m x)
small_sum m x size high low h =
    let up = sum_to-grows m x size high in
    let down = sum_to-grows m (λ t. pos 0 -ℤ x t) size low in
    let minus = sum_to-negative m x in
    (omega (arith, ints), omega (arith, ints))

-- no sum is greater than all sizes together
pub partial_small : (table : List ℤ) (c s : ℕ) → sizes table ≤ℤ pos 4000000000 → Lies 4000000000 (partial table c s)
unfolding partial sizes
partial_small table c s h =
    small_sum 512 (λ t. cond (all_below 9 (may c (members t) (members s))) (number_of table t) (pos 0)) (λ t. int_max (number_of table t) (pos 0 -ℤ number_of table t))
    (λ t l. high (all_below 9 (may c (members t) (members s))) (number_of table t)) (λ t l. low (all_below 9 (may c (members t) (members s))) (number_of table t)) h
  where
    high : (b : Bool) (v : ℤ) → cond b v (pos 0) ≤ℤ int_max v (pos 0 -ℤ v)
    high true v = omega (arith, ints, clamps)
    high false v = omega (arith, ints, clamps)

    low : (b : Bool) (v : ℤ) → (pos 0 -ℤ cond b v (pos 0)) ≤ℤ int_max v (pos 0 -ℤ v)
    low true v = omega (arith, ints, clamps)
    low false v = omega (arith, ints, clamps)
