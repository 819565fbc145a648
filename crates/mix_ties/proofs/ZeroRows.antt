-- Nothing is shared among tables of 0.
use Rattle.std.proofs.Common.{◌≡◌, ℕ, zero, suc, ◌/◌, ◌%◌, ◌^◌, ◌<◌, eqb, cond, Bool, true, false, ℤ, pos, List, [], ◌∷◌, All, length, get_or, replicate, bit_and, bit_or, refl, sym, ap, ◌∙◌, subst, arith}
use Rattle.std.proofs.lemmas.Int.{ints}
use Rattle.std.proofs.lemmas.List.{get_or-replicate, length-replicate}
use Rattle.std.proofs.lemmas.Nat.{or_lt, pow_pos}
use Rattle.std.specs.Int.Bits.{and_lt}
use Rattle.mix_num.specs.Sums.{total, sum_in}
use Rattle.mix_num.specs.Tables.{IsProper, number_of, whole}
use Rattle.mix_num.proofs.Additions.{sum_in-none, sum_in-cons, total-none, total-cons}
use Rattle.mix_num.specs.Shares.{sum_at, supply_null}
use Rattle.mix_ties.specs.Shares.{AreProper, LiesInSum}

-- a table over n goods whose numbers are 0
abbrev IsZero : ℕ → List ℤ → Type 0
IsZero n row = row ≡ replicate (2 ^ suc n) (pos 0)

zero-number : (n set : ℕ) (row : List ℤ) → IsZero n row → set < 2 ^ suc n → number_of row set ≡ pos 0
zero-number n set row e h = ap (λ (xs : List ℤ). get_or xs set (pos 0)) e ∙ get_or-replicate (2 ^ suc n) set (pos 0) (pos 0) h

zero-proper : (n : ℕ) (row : List ℤ) → IsZero n row → IsProper n row
zero-proper n row e = record {
  size = ap (λ (xs : List ℤ). length xs) e ∙ length-replicate (2 ^ suc n) (pos 0);
  empty = zero-number n 0 row e (pow_pos (suc n));
  submodular = λ a b h k.
      let i = zero-number n a row e h in
      let j = zero-number n b row e k in
      let u = zero-number n (bit_and a b) row e (and_lt (suc n) a b h k) in
      let v = zero-number n (bit_or a b) row e (or_lt (suc n) a b h k) in
      omega (arith, ints);
  grows = λ a b h k.
      let i = zero-number n a row e h in
      let v = zero-number n (bit_or a b) row e (or_lt (suc n) a b h k) in
      omega (arith, ints);
  bound = λ a h. let i = zero-number n a row e h in omega (arith, ints);
}

-- tables of 0 are proper
pub zeros_proper : (n g : ℕ) (rows : List (List ℤ)) → g ≡ n → All (λ row. row ≡ replicate (2 ^ suc n) (pos 0)) rows → AreProper g rows
zeros_proper n g rows e all = subst (λ (m : ℕ). AreProper m rows) (sym e) (λ k h. zero-proper n (get_or rows k []) (all k [] h))

sum-zeros : (n : ℕ) (rows : List (List ℤ)) → All (IsZero n) rows → (set : ℕ) → set < 2 ^ suc n → sum_at rows set ≡ pos 0
sum-zeros n [] all set h = refl
sum-zeros n (row ∷ rows) all set h =
    let a = zero-number n set row (all 0 [] (omega arith)) h in
    let b = sum-zeros n rows (λ k d l. all (suc k) d (omega arith)) set h in
    omega (arith, ints)

total-zeros : (k : ℕ) → total (replicate k (pos 0)) ≡ pos 0
total-zeros zero = total-none
total-zeros (suc k) = total-cons (pos 0) (replicate k (pos 0)) ∙ (let r = total-zeros k in omega (arith, ints))

counted-zero : (b : Bool) → cond b (pos 0) (pos 0) ≡ pos 0
counted-zero true = refl
counted-zero false = refl

sum_in-zeros : (k set : ℕ) → sum_in (replicate k (pos 0)) set ≡ pos 0
sum_in-zeros zero set = sum_in-none set
sum_in-zeros (suc k) set =
    let a = sum_in-cons (pos 0) (replicate k (pos 0)) set in
    let r = sum_in-zeros k (set / 2) in
    let c = counted-zero (eqb (set % 2) 1) in
    omega (arith, ints)

lies-at : (n : ℕ) (rows : List (List ℤ)) (supply : List ℤ) → All (IsZero n) rows → supply ≡ replicate n (pos 0) → LiesInSum n rows supply
lies-at n rows supply all e = record {
  size = ap (λ (xs : List ℤ). length xs) e ∙ length-replicate n (pos 0);
  within = λ set h.
      let some : 0 < 2 ^ suc n = pow_pos (suc n) in
      let w = sum-zeros n rows all (whole n) (omega arith) in
      let t = ap total e ∙ total-zeros n in
      let null : supply_null n rows supply ≡ pos 0 = omega (arith, ints) in
      let all_zero = ap (λ (xs : List ℤ). sum_in (supply_null n rows supply ∷ xs) set) e ∙ ap (λ (a : ℤ). sum_in (a ∷ replicate n (pos 0)) set) null ∙ sum_in-zeros (suc n) set in
      let right = sum-zeros n rows all set h in
      omega (arith, ints);
}

-- and a supply of nothing lies in their sum
pub nothing_lies : (n g : ℕ) (rows : List (List ℤ)) (supply : List ℤ) → g ≡ n → All (λ row. row ≡ replicate (2 ^ suc n) (pos 0)) rows → supply ≡ replicate n (pos 0) → LiesInSum g rows supply
nothing_lies n g rows supply e all nothing = subst (λ (m : ℕ). LiesInSum m rows supply) (sym e) (lies-at n rows supply all nothing)
