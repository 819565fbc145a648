-- Pairs of sets as numbers are those of the sets taken choice by choice.
use Rattle.std.proofs.Common.{◌≡◌, ℕ, zero, suc, ◌+◌, ◌/◌, ◌%◌, ◌^◌, ◌<◌, ◌≤◌, Bool, true, false, cond, eqb, ℤ, pos, ◌+ℤ◌, List, [], ◌∷◌, length, refl, sym, ap, ap₂, ◌∙◌, arith}
use Rattle.std.proofs.lemmas.Nat.{shr-shr}
use Rattle.std.specs.Int.{bit_at}
use Rattle.mix_num.specs.Vectors.{members}
use Rattle.mix_num.specs.Sums.{entries}
use Rattle.mix_num.proofs.Additions.{sum_to-front, sum_to-same}
use Rattle.mix_ties.specs.Numbered.{amounts_of, number, with_first}
use Rattle.mix_ties.specs.Peeled.{Subset}
use Rattle.mix_ties.proofs.SetNumbers.{number-lt}
use Rattle.mix_num.specs.Pairs.{IsPair, sum_before}
use Rattle.mix_ties.proofs.PeeledPairs.{IsPairPeeled, amount_before}

shift_first : (c : Bool) (m i : ℕ) → with_first c m / 2 ^ suc (suc i) ≡ m / 2 ^ suc i
shift_first c m i =
    let q : with_first c m / 2 ^ 2 ≡ m / 2 ^ 1 = quarter c m in
    ap (λ (e : ℕ). with_first c m / 2 ^ e) (let e : suc (suc i) ≡ 2 + i = omega arith in e)
    ∙ sym (shr-shr (with_first c m) 2 i)
    ∙ ap (λ (w : ℕ). w / 2 ^ i) q
    ∙ shr-shr m 1 i
    ∙ ap (λ (e : ℕ). m / 2 ^ e) (let e : 1 + i ≡ suc i = omega arith in e)
  where
    quarter : (c : Bool) (m : ℕ) → with_first c m / 2 ^ 2 ≡ m / 2 ^ 1
    quarter false m = omega arith
    quarter true m = omega arith

-- the members of a set with a good put in before its first
members-later : (c : Bool) (m i : ℕ) → members (with_first c m) (suc (suc i)) ≡ members m (suc i)
members-later c m i = ap (λ (w : ℕ). eqb (w % 2) 1) (shift_first c m i)

members-first : (c : Bool) (m : ℕ) → members (with_first c m) 1 ≡ c
members-first c m = ap (λ (w : ℕ). eqb w 1) (at c m) ∙ same c
  where
    at : (c : Bool) (m : ℕ) → bit_at (with_first c m) 1 ≡ cond c 1 0
    at false m = omega arith
    at true m = omega arith

    same : (c : Bool) → eqb (cond c 1 0) 1 ≡ c
    same false = refl
    same true = refl

members-null : (c : Bool) (m : ℕ) → members (with_first c m) 0 ≡ members m 0
members-null c m = ap (λ (w : ℕ). eqb w 1) (at c m)
  where
    at : (c : Bool) (m : ℕ) → bit_at (with_first c m) 0 ≡ bit_at m 0
    at false m = omega arith
    at true m = omega arith

pub pair-in : (n j : ℕ) (s t : Subset (suc n)) → j < n → IsPairPeeled (suc n) j s t → IsPair n j (number n s) (number n t)
pair-in zero j s t h p = absurd (omega arith)
pair-in (suc n) zero s t h p =
    let e : number n s.1 ≡ number n t.1 = ap (number n) p.2 in
    record {
      upper_set = number-lt (suc n) s;
      lower_set = number-lt (suc n) t;
      inside = members-first s.0 (number n s.1) ∙ p.0;
      outside = members-first t.0 (number n t.1) ∙ p.1;
      null = members-null s.0 (number n s.1) ∙ ap (λ (m : ℕ). members m 0) e ∙ sym (members-null t.0 (number n t.1));
      later = at e;
    }
  where
    at : number n s.1 ≡ number n t.1 → (i : ℕ) → 1 < i → i ≤ suc n → members (number (suc n) s) i ≡ members (number (suc n) t) i
    at e zero l m = absurd (omega arith)
    at e (suc zero) l m = absurd (omega arith)
    at e (suc (suc i)) l m = members-later s.0 (number n s.1) i ∙ ap (λ (m : ℕ). members m (suc i)) e ∙ sym (members-later t.0 (number n t.1) i)
pair-in (suc n) (suc j) s t h p =
    let q = pair-in n j s.1 t.1 (omega arith) p in
    record {
      upper_set = number-lt (suc n) s;
      lower_set = number-lt (suc n) t;
      inside = members-later s.0 (number n s.1) j ∙ q.inside;
      outside = members-later t.0 (number n t.1) j ∙ q.outside;
      null = members-null s.0 (number n s.1) ∙ q.null ∙ sym (members-null t.0 (number n t.1));
      later = at q;
    }
  where
    at : IsPair n j (number n s.1) (number n t.1) → (i : ℕ) → suc (suc j) < i → i ≤ suc n → members (number (suc n) s) i ≡ members (number (suc n) t) i
    at q zero l m = absurd (omega arith)
    at q (suc zero) l m = absurd (omega arith)
    at q (suc (suc i)) l m = members-later s.0 (number n s.1) i ∙ q.later (suc i) (omega arith) (omega arith) ∙ sym (members-later t.0 (number n t.1) i)

pub before-is : (n j : ℕ) (null : ℤ) (xs : List ℤ) (s : Subset (suc n)) → length xs ≡ n → j ≤ n
    → amount_before (suc n) j (amounts_of n null xs) s ≡ sum_before j xs (number n s)
before-is zero zero null xs s e h = refl
before-is zero (suc j) null xs s e h = absurd (omega arith)
before-is (suc n) j null [] s e h = absurd (omega arith)
before-is (suc n) zero null (x ∷ xs) s e h = refl
before-is (suc n) (suc j) null (x ∷ xs) s e h =
    let set : ℕ = number n s.1 in
    ap₂ (λ (b : Bool) (a : ℤ). cond b x (pos 0) +ℤ a) (sym (members-first s.0 set)) (before-is n j null xs s.1 (omega arith) (omega arith))
    ∙ ap (λ (a : ℤ). cond (members (with_first s.0 set) 1) x (pos 0) +ℤ a)
    (sum_to-same j (λ i. cond (members set (suc i)) (entries xs i) (pos 0)) (λ i. cond (members (with_first s.0 set) (suc (suc i))) (entries xs i) (pos 0))
    (λ i l. ap (λ (b : Bool). cond b (entries xs i) (pos 0)) (sym (members-later s.0 set i))))
    ∙ sym (sum_to-front j (λ i. cond (members (with_first s.0 set) (suc i)) (entries (x ∷ xs) i) (pos 0)))
