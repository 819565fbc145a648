-- The first pair of two tables by an amount, where the sets of the other choices are tried in rising number.
use Rattle.std.proofs.Common.{◌≡◌, ◌≢◌, ℕ, suc, ◌/◌, ◌^◌, ◌<◌, ◌≤◌, ℤ, ◌-ℤ◌, List, sym, ap, ap₂, ◌∙◌, arith, ⊎_elim, eq-or-lt_of_le}
use Rattle.std.proofs.lemmas.Bool.{cases_lt}
use Rattle.std.proofs.lemmas.Nat.{pow_pos}
use Rattle.mix_num.specs.Tables.{number_of}
use Rattle.mix_ties.specs.Levels.{IsFirstLevel, IsLevel}
use Rattle.mix_ties.proofs.PairNumbers.{Found, lower_at, pair_at, pair_from, upper_at, upper_grows}

-- by how much the upper set of the other choices is above the m-th lower set that agrees with it
abbrev pub gap_at : ℕ → List ℤ → List ℤ → ℕ → ℕ → ℤ
gap_at own upper lower others m = number_of upper (upper_at own others) -ℤ number_of lower (lower_at own others m)

module _ (n j own : ℕ) (upper lower : List ℤ) (amount : ℤ) (is : own ≡ 2 ^ suc j) (good : j < n) where
  -- every pair is tried
  gap-of : (c d : ℕ) → IsLevel n j upper lower amount c d → (f : Found n own c d) → gap_at own upper lower f.others f.place ≡ amount
  gap-of c d t f = sym (ap₂ (λ (a b : ℕ). number_of upper a -ℤ number_of lower b) f.upper f.lower) ∙ t.gap

  pub first_level : (others m : ℕ) → others < 2 ^ n → m < own / 2 → gap_at own upper lower others m ≡ amount
      → ((k i : ℕ) → k < others → i < own / 2 → gap_at own upper lower k i ≢ amount) → ((i : ℕ) → i < m → gap_at own upper lower others i ≢ amount)
      → IsFirstLevel n j upper lower amount (upper_at own others) (lower_at own others m)
  first_level others m l h gap earlier before = record {
    level = record { pair = pair_at n j own others m is good l h; gap = gap };
    least_upper = λ c d t.
        let f = pair_from n j own c d is good t.pair in
        let u = f.upper in
        ⊎_elim
        (λ (q : f.others < others). absurd (earlier f.others f.place q f.place_set (gap-of c d t f)))
        (λ (q : others ≤ f.others). ⊎_elim
        (λ (e : others ≡ f.others). let s = ap (upper_at own) e in omega arith)
        (λ (p : others < f.others). let s = upper_grows own others f.others (omega (arith, is, pow_pos (suc j))) p in omega arith)
        (eq-or-lt_of_le q))
        (cases_lt f.others others);
    least_lower = λ d t.
        let f = pair_from n j own (upper_at own others) d is good t.pair in
        let u = f.upper in
        let v = f.lower in
        ⊎_elim
        (λ (q : f.others < others). absurd (earlier f.others f.place q f.place_set (gap-of (upper_at own others) d t f)))
        (λ (q : others ≤ f.others). ⊎_elim
        (λ (e : others ≡ f.others). ⊎_elim
        (λ (p : f.place < m). absurd (before f.place p (ap (λ (k : ℕ). gap_at own upper lower k f.place) e ∙ gap-of (upper_at own others) d t f)))
        (λ (p : m ≤ f.place). let s = ap (λ (k : ℕ). lower_at own k f.place) e in omega arith)
        (cases_lt f.place m))
        (λ (p : others < f.others). let s = upper_grows own others f.others (omega (arith, is, pow_pos (suc j))) p in absurd (omega arith))
        (eq-or-lt_of_le q))
        (cases_lt f.others others);
  }

  pub no_level : ((k i : ℕ) → k < 2 ^ n → i < own / 2 → gap_at own upper lower k i ≢ amount) → (c d : ℕ) → IsLevel n j upper lower amount c d → ⊥
  no_level none c d t = let f = pair_from n j own c d is good t.pair in none f.others f.place f.others_set f.place_set (gap-of c d t f)
