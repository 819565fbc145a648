-- A set without one of its choices, by its bits.
use Rattle.std.proofs.Common.{◌≡◌, ◌∙◌, ℕ, suc, ◌<◌, ◌≤◌, ◌^◌, ◌*◌, ◌%◌, ◌⊎◌, inl, inr, eq-or-lt_of_le, eq-eqb, Bool, true, false, cond, eqb, ltb, bit_and, arith, sym, ap, refl, w16}
use Rattle.std.proofs.lemmas.Nat.{and_le_l}
use Rattle.std.proofs.lemmas.Nat.Bits.{bit_at_clear_same, bit_at_clear_other, bit_at-lt, same_from_bits}
use Rattle.std.proofs.lemmas.Bool.{eqb-true, eqb-false, ltb-true, ltb-false, false≢true}
use Rattle.std.specs.Int.{bit_at, bit_not}
use Rattle.mix_num.specs.Vectors.{members}
use Rattle.mix_num.proofs.Masks.{members_above, and_members, mask_of, mask_members, mask_below}
use Rattle.std.proofs.Math.Nat.{pow-le-pow_right}
use Rattle.mix_num.specs.Subsets.{IsWithout}

pub cleared : (n k : ℕ) → n < 2 ^ 16 → k < 16 → IsWithout k n (bit_and n (bit_not w16 (1 * 2 ^ k % 2 ^ 16)))
cleared n k small within = λ i. at i (eqb i k) refl (ltb i 16) refl
  where
    rest : ℕ
    rest = bit_and n (bit_not w16 (1 * 2 ^ k % 2 ^ 16))

    lower : rest ≤ n
    lower = and_le_l n (bit_not w16 (1 * 2 ^ k % 2 ^ 16))

    at : (i : ℕ) (b : Bool) → eqb i k ≡ b → (d : Bool) → ltb i 16 ≡ d → members rest i ≡ cond (eqb i k) false (members n i)
    at i true e d f =
        ap (λ (j : ℕ). members rest j) (eqb-true i k e) ∙ ap (λ (v : ℕ). eqb v 1) (bit_at_clear_same w16 n k within) ∙ sym (ap (λ (z : Bool). cond z false (members n i)) e)
    at i false e true f =
        ap (λ (v : ℕ). eqb v 1) (bit_at_clear_other w16 n k within i (ltb-true i 16 f) (eqb-false i k e)) ∙ sym (ap (λ (z : Bool). cond z false (members n i)) e)
    at i false e false f =
        members_above rest 16 i (omega (arith, lower)) (ltb-false i 16 f) ∙ sym (members_above n 16 i small (ltb-false i 16 f)) ∙ sym (ap (λ (z : Bool). cond z false (members n i)) e)

-- it is a smaller number where the choice was in the set
pub cleared_less : (n k rest : ℕ) → rest ≤ n → IsWithout k n rest → members n k ≡ true → rest < n
cleared_less n k rest h w inside = at (eq-or-lt_of_le h)
  where
    at : (rest ≡ n) ⊎ (rest < n) → rest < n
    at (inl e) = absurd (false≢true (sym (w k ∙ ap (λ (b : Bool). cond b false (members n k)) (eq-eqb k k refl)) ∙ ap (λ (v : ℕ). members v k) e ∙ inside))
    at (inr l) = l

-- there is one such set
pub one_rest : (c s a b : ℕ) → IsWithout c s a → IsWithout c s b → a ≡ b
one_rest c s a b p q = same_from_bits a b (λ k. same_bit (bit_at a k) (bit_at b k) (bit_at-lt a k) (bit_at-lt b k) (p k ∙ sym (q k)))
  where
    same_bit : (x y : ℕ) → x < 2 → y < 2 → eqb x 1 ≡ eqb y 1 → x ≡ y
    same_bit x y h l e = at (eqb x 1) refl (eqb y 1) refl
      where
        at : (f : Bool) → eqb x 1 ≡ f → (g : Bool) → eqb y 1 ≡ g → x ≡ y
        at true p true q = let a = eqb-true x 1 p in let b = eqb-true y 1 q in omega arith
        at true p false q = absurd (false≢true (sym q ∙ sym e ∙ p))
        at false p true q = absurd (false≢true (sym p ∙ e ∙ q))
        at false p false q = let a = eqb-false x 1 p in let b = eqb-false y 1 q in omega arith

-- it is no greater a number
pub rest_below : (c s rest : ℕ) → IsWithout c s rest → rest ≤ s
rest_below c s rest w =
    let e = one_rest c s rest (bit_and s rest) w (λ k. and_members s rest k ∙ ap (λ (b : Bool). cond (members s k) b false) (w k) ∙ twice (members s k) (eqb k c)) in
    let l = and_le_l s rest in
    omega arith
  where
    twice : (a b : Bool) → cond a (cond b false a) false ≡ cond b false a
    twice true b = refl
    twice false true = refl
    twice false false = refl

pub few_sets : (n : ℕ) → n ≤ 8 → 2 ^ suc n ≤ 512
few_sets n h = pow-le-pow_right (omega arith) {i = suc n} {j = 9} (omega arith)

-- there is one
pub without_exists : (c s : ℕ) → s < 512 → IsWithout c s (mask_of 9 (λ k. cond (eqb k c) false (members s k)))
without_exists c s small = λ k. at k (ltb k 9) refl
  where
    none : (b : Bool) → cond b false false ≡ false
    none true = refl
    none false = refl

    at : (k : ℕ) (b : Bool) → ltb k 9 ≡ b → members (mask_of 9 (λ k. cond (eqb k c) false (members s k))) k ≡ cond (eqb k c) false (members s k)
    at k true e = mask_members 9 (λ k. cond (eqb k c) false (members s k)) k (ltb-true k 9 e)
    at k false e =
        members_above (mask_of 9 (λ k. cond (eqb k c) false (members s k))) 9 k (mask_below 9 (λ k. cond (eqb k c) false (members s k))) (ltb-false k 9 e)
        ∙ sym (ap (λ (b : Bool). cond (eqb k c) false b) (members_above s 9 k small (ltb-false k 9 e)) ∙ none (eqb k c))
