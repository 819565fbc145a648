-- Sets of choices as numbers: unions, intersections, sums and tables are those of the sets taken choice by choice.
use Rattle.std.proofs.Common.{◌≡◌, ℕ, zero, suc, ◌+◌, ◌*◌, ◌/◌, ◌%◌, ◌^◌, ◌<◌, Bool, true, false, cond, ◌&&◌, ◌||◌, ◌==◌, ℤ, pos, ◌+ℤ◌, ◌≤ℤ◌, List, [], ◌∷◌, length, bit_and, bit_or, refl, sym, ap, ◌∙◌, arith, pow-suc}
use Rattle.std.proofs.lemmas.Int.{ints}
use Rattle.std.proofs.lemmas.Nat.{or_block, and_block, or_shr, and_shr, or_mod, and_mod}
use Rattle.std.proofs.lemmas.Bool.{cond_both, eqb-true, eqb-false, eq-eqb, ne_eqb}
use Rattle.mix_num.proofs.Additions.{sum_in-cons, sum_in-none}
use Rattle.mix_num.specs.Sums.{sum_in}
use Rattle.mix_num.specs.Tables.{IsProper}
use Rattle.mix_ties.specs.Numbered.{amounts_of, less_first, number, subset, table_over, with_first}
use Rattle.mix_ties.specs.Peeled.{IsSubmodular, Subset, amount_in, every, meet, none, union}

pub or_first : (b c : Bool) (m k : ℕ) → bit_or (with_first b m) (with_first c k) ≡ with_first (b || c) (bit_or m k)
or_first false false m k = omega (arith, or_block 1 (m / 2 * 2 + 0) (k / 2 * 2 + 0) (m % 2) (k % 2) (omega arith) (omega arith), or_block 1 (m / 2) (k / 2) 0 0 (omega arith) (omega arith), or_shr m k 1, or_mod m k 1)
or_first false true m k = omega (arith, or_block 1 (m / 2 * 2 + 0) (k / 2 * 2 + 1) (m % 2) (k % 2) (omega arith) (omega arith), or_block 1 (m / 2) (k / 2) 0 1 (omega arith) (omega arith), or_shr m k 1, or_mod m k 1)
or_first true false m k = omega (arith, or_block 1 (m / 2 * 2 + 1) (k / 2 * 2 + 0) (m % 2) (k % 2) (omega arith) (omega arith), or_block 1 (m / 2) (k / 2) 1 0 (omega arith) (omega arith), or_shr m k 1, or_mod m k 1)
or_first true true m k = omega (arith, or_block 1 (m / 2 * 2 + 1) (k / 2 * 2 + 1) (m % 2) (k % 2) (omega arith) (omega arith), or_block 1 (m / 2) (k / 2) 1 1 (omega arith) (omega arith), or_shr m k 1, or_mod m k 1)

pub and_first : (b c : Bool) (m k : ℕ) → bit_and (with_first b m) (with_first c k) ≡ with_first (b && c) (bit_and m k)
and_first false false m k = omega (arith, and_block 1 (m / 2 * 2 + 0) (k / 2 * 2 + 0) (m % 2) (k % 2) (omega arith) (omega arith), and_block 1 (m / 2) (k / 2) 0 0 (omega arith) (omega arith), and_shr m k 1, and_mod m k 1)
and_first false true m k = omega (arith, and_block 1 (m / 2 * 2 + 0) (k / 2 * 2 + 1) (m % 2) (k % 2) (omega arith) (omega arith), and_block 1 (m / 2) (k / 2) 0 1 (omega arith) (omega arith), and_shr m k 1, and_mod m k 1)
and_first true false m k = omega (arith, and_block 1 (m / 2 * 2 + 1) (k / 2 * 2 + 0) (m % 2) (k % 2) (omega arith) (omega arith), and_block 1 (m / 2) (k / 2) 1 0 (omega arith) (omega arith), and_shr m k 1, and_mod m k 1)
and_first true true m k = omega (arith, and_block 1 (m / 2 * 2 + 1) (k / 2 * 2 + 1) (m % 2) (k % 2) (omega arith) (omega arith), and_block 1 (m / 2) (k / 2) 1 1 (omega arith) (omega arith), and_shr m k 1, and_mod m k 1)

pub number-union : (n : ℕ) (s t : Subset (suc n)) → number n (union (suc n) s t) ≡ bit_or (number n s) (number n t)
number-union zero (false, s) (false, t) = refl
number-union zero (false, s) (true, t) = refl
number-union zero (true, s) (false, t) = refl
number-union zero (true, s) (true, t) = refl
number-union (suc n) s t = ap (with_first (s.0 || t.0)) (number-union n s.1 t.1) ∙ sym (or_first s.0 t.0 (number n s.1) (number n t.1))

pub number-meet : (n : ℕ) (s t : Subset (suc n)) → number n (meet (suc n) s t) ≡ bit_and (number n s) (number n t)
number-meet zero (false, s) (false, t) = refl
number-meet zero (false, s) (true, t) = refl
number-meet zero (true, s) (false, t) = refl
number-meet zero (true, s) (true, t) = refl
number-meet (suc n) s t = ap (with_first (s.0 && t.0)) (number-meet n s.1 t.1) ∙ sym (and_first s.0 t.0 (number n s.1) (number n t.1))

pub number-none : (n : ℕ) → number n (none (suc n)) ≡ 0
number-none zero = refl
number-none (suc n) = ap (with_first false) (number-none n)

pub number-every : (n : ℕ) → number n (every (suc n)) + 1 ≡ 2 ^ (suc n)
number-every zero = refl
number-every (suc n) = let h = number-every n in rw pow-suc (omega (arith, pow-suc 2 n))

bit_lt : (b : Bool) → cond b 1 0 < 2
bit_lt false = omega arith
bit_lt true = omega arith

pub number-lt : (n : ℕ) (s : Subset (suc n)) → number n s < 2 ^ (suc n)
number-lt zero s = omega (arith, bit_lt s.0)
number-lt (suc n) s = rw pow-suc (omega (arith, bit_lt s.0, number-lt n s.1, pow-suc 2 n))

pub odd_bit : (m : ℕ) → cond (m % 2 == 1) 1 0 ≡ m % 2
odd_bit m = cond_both (m % 2 == 1) 1 0 (λ x. x ≡ m % 2) (λ e. omega (arith, eqb-true (m % 2) 1 e)) (λ e. omega (arith, eqb-false (m % 2) 1 e))

pub number-subset : (n m : ℕ) → m < 2 ^ (suc n) → number n (subset n m) ≡ m
number-subset zero m h = omega (arith, odd_bit m)
number-subset (suc n) m h =
    let e : number n (subset n (less_first m)) ≡ less_first m = number-subset n (less_first m) (omega (arith, pow-suc 2 (suc n), h)) in
    omega (arith, odd_bit (m / 2), e)

-- ---- sums
first_odd : (b : Bool) (m : ℕ) → with_first b m % 2 ≡ m % 2
first_odd b m = omega arith

first_half : (b : Bool) (m : ℕ) → with_first b m / 2 ≡ m / 2 * 2 + cond b 1 0
first_half b m = omega arith

bit_back : (b : Bool) (m : ℕ) → ((m / 2 * 2 + cond b 1 0) % 2 == 1) ≡ b
bit_back false m = ne_eqb ((m / 2 * 2 + 0) % 2) 1 (omega arith)
bit_back true m = eq-eqb ((m / 2 * 2 + 1) % 2) 1 (omega arith)

half_back : (b : Bool) (m : ℕ) → (m / 2 * 2 + cond b 1 0) / 2 ≡ m / 2
half_back false m = omega arith
half_back true m = omega arith

swap_first : (a b c : ℤ) → a +ℤ (b +ℤ c) ≡ b +ℤ (a +ℤ c)
swap_first a b c = omega (arith, ints)

pub sum_in-first : (null x : ℤ) (xs : List ℤ) (b : Bool) (m : ℕ) → sum_in (null ∷ x ∷ xs) (with_first b m) ≡ cond b x (pos 0) +ℤ sum_in (null ∷ xs) m
sum_in-first null x xs b m =
    rw (sum_in-cons null (x ∷ xs) (with_first b m), sum_in-cons x xs (with_first b m / 2), sum_in-cons null xs m, first_odd b m, first_half b m, bit_back b m, half_back b m)
    (swap_first (cond (m % 2 == 1) null (pos 0)) (cond b x (pos 0)) (sum_in xs (m / 2)))

pub sum_in-number : (n : ℕ) (null : ℤ) (xs : List ℤ) (s : Subset (suc n)) → length xs ≡ n
    → sum_in (null ∷ xs) (number n s) ≡ amount_in (suc n) (amounts_of n null xs) s
sum_in-number zero null [] (false, s) e = omega (arith, ints, sum_in-cons null [] 0, sum_in-none 0)
sum_in-number zero null [] (true, s) e = omega (arith, ints, sum_in-cons null [] 1, sum_in-none 0)
sum_in-number zero null (x ∷ xs) s e = absurd (omega arith)
sum_in-number (suc n) null [] s e = absurd (omega arith)
sum_in-number (suc n) null (x ∷ xs) s e = sum_in-first null x xs s.0 (number n s.1) ∙ ap (λ y. cond s.0 x (pos 0) +ℤ y) (sum_in-number n null xs s.1 (omega arith))

pub table-submodular : (n : ℕ) (numbers : List ℤ) → IsProper n numbers → IsSubmodular (suc n) (table_over n numbers)
table-submodular n numbers p s t =
    let h = p.submodular (number n s) (number n t) (number-lt n s) (number-lt n t) in
    rw (number-union n s t, number-meet n s t) (omega (arith, ints, h))

pub table-grows : (n : ℕ) (numbers : List ℤ) → IsProper n numbers → (s t : Subset (suc n)) → table_over n numbers s ≤ℤ table_over n numbers (union (suc n) s t)
table-grows n numbers p s t =
    rw (number-union n s t) (p.grows (number n s) (number n t) (number-lt n s) (number-lt n t))
