-- A supply that fits the sum of the rows is shared row by row.
use Rattle.std.proofs.Common.{◌≡◌, ℕ, zero, suc, true, false, ℤ, pos, ◌+ℤ◌, ◌-ℤ◌, ◌≤ℤ◌, ◌<ℤ◌, List, [], ◌∷◌, refl, ap, subst, ap₂, arith, ◌⊎◌, inl, inr}
use Rattle.std.proofs.lemmas.Int.{ints}
use Rattle.mix_ties.proofs.Sandwiches.{between_greedy, between_tail, least-at}
use Rattle.mix_ties.specs.Peeled.{Amounts, IsSandwich, IsSubmodular, LiesBetween, Subset, amount_in, cut, every, greedy, lift, meet, most, none, union, without, zeros}

-- the sum of the rows at a set
abbrev pub rows_at : (k : ℕ) → List (Subset k → ℤ) → Subset k → ℤ
rows_at k [] s = pos 0
rows_at k (r ∷ rs) s = r s +ℤ rows_at k rs s

-- a table that is 0 at the empty set, submodular and growing
pub record IsProperPeeled (k : ℕ) (r : Subset k → ℤ) : Type 0 where
  pub submodular : IsSubmodular k r
  pub at_none : r (none k) ≡ pos 0
  pub grows : (s t : Subset k) → r s ≤ℤ r (union k s t)

abbrev pub AreProperPeeled : (k : ℕ) → List (Subset k → ℤ) → Type 0
AreProperPeeled k [] = Unit {0}
AreProperPeeled k (r ∷ rs) = IsProperPeeled k r × AreProperPeeled k rs

-- the amounts fit the table
pub record FitsPeeled (k : ℕ) (r : Subset k → ℤ) (x : Amounts k) : Type 0 where
  pub within : (s : Subset k) → amount_in k x s ≤ℤ r s
  pub exact : amount_in k x (every k) ≡ r (every k)

-- amounts for each row, which fit it, and together they are t
abbrev pub AreSharesPeeled : (k : ℕ) → List (Subset k → ℤ) → List (Amounts k) → Amounts k → Type 0
AreSharesPeeled k [] [] t = t ≡ zeros k
AreSharesPeeled k [] (x ∷ xs) t = ⊥
AreSharesPeeled k (r ∷ rs) [] t = ⊥
AreSharesPeeled k (r ∷ rs) (x ∷ xs) t = FitsPeeled k r x × AreSharesPeeled k rs xs (without k t x)

-- at the first choice in which two vectors differ, the greater entry decides
abbrev pub IsLexAtMostPeeled : (k : ℕ) → Amounts k → Amounts k → Type 0
IsLexAtMostPeeled zero x y = Unit {0}
IsLexAtMostPeeled (suc k) x y = (x.0 <ℤ y.0) ⊎ ((x.0 ≡ y.0) × IsLexAtMostPeeled k x.1 y.1)

-- each in turn is the greatest that can be completed
abbrev pub AreGreatestPeeled : (k : ℕ) → List (Subset k → ℤ) → List (Amounts k) → Amounts k → Type 0
AreGreatestPeeled k [] xs t = Unit {0}
AreGreatestPeeled k (r ∷ rs) [] t = Unit {0}
AreGreatestPeeled k (r ∷ rs) (x ∷ xs) t =
    ((z : Amounts k) (zs : List (Amounts k)) → FitsPeeled k r z → AreSharesPeeled k rs zs (without k t z) → IsLexAtMostPeeled k z x) × AreGreatestPeeled k rs xs (without k t x)

-- what is left of t at a set, less what the later rows take there
abbrev pub floor_of : (k : ℕ) → Amounts k → List (Subset k → ℤ) → Subset k → ℤ
floor_of k t rs s = amount_in k t s -ℤ rows_at k rs s

-- row by row the greatest that can be completed
unfoldable pub shares : (k : ℕ) → List (Subset k → ℤ) → Amounts k → List (Amounts k)
shares k [] t = []
shares k (r ∷ rs) t = greedy k r (floor_of k t rs) ∷ shares k rs (without k t (greedy k r (floor_of k t rs)))

pub sum_modular : (k : ℕ) (x : Amounts k) (s t : Subset k) → amount_in k x (union k s t) +ℤ amount_in k x (meet k s t) ≡ amount_in k x s +ℤ amount_in k x t
sum_modular zero x s t = refl
sum_modular (suc k) x (false, s) (false, t) = omega (arith, ints, sum_modular k x.1 s t)
sum_modular (suc k) x (false, s) (true, t) = omega (arith, ints, sum_modular k x.1 s t)
sum_modular (suc k) x (true, s) (false, t) = omega (arith, ints, sum_modular k x.1 s t)
sum_modular (suc k) x (true, s) (true, t) = omega (arith, ints, sum_modular k x.1 s t)

pub sum_minus : (k : ℕ) (t x : Amounts k) (s : Subset k) → amount_in k (without k t x) s ≡ amount_in k t s -ℤ amount_in k x s
sum_minus zero t x s = refl
sum_minus (suc k) t x (false, s) = omega (arith, ints, sum_minus k t.1 x.1 s)
sum_minus (suc k) t x (true, s) = omega (arith, ints, sum_minus k t.1 x.1 s)

pub sum_none : (k : ℕ) (x : Amounts k) → amount_in k x (none k) ≡ pos 0
sum_none zero x = refl
sum_none (suc k) x = omega (arith, ints, sum_none k x.1)

pub zeros-sum : (k : ℕ) (s : Subset k) → amount_in k (zeros k) s ≡ pos 0
zeros-sum zero s = refl
zeros-sum (suc k) (false, s) = omega (arith, ints, zeros-sum k s)
zeros-sum (suc k) (true, s) = omega (arith, ints, zeros-sum k s)

pub rows-submodular : (k : ℕ) (rs : List (Subset k → ℤ)) → AreProperPeeled k rs → IsSubmodular k (rows_at k rs)
rows-submodular k [] p s t = omega (arith, ints)
rows-submodular k (r ∷ rs) p s t = omega (arith, ints, p.0.submodular s t, rows-submodular k rs p.1 s t)

pub rows-empty : (k : ℕ) (rs : List (Subset k → ℤ)) → AreProperPeeled k rs → rows_at k rs (none k) ≡ pos 0
rows-empty k [] p = refl
rows-empty k (r ∷ rs) p = omega (arith, ints, p.0.at_none, rows-empty k rs p.1)

-- the supply lies in the sum of the rows
pub rows-sandwich : (k : ℕ) (r : Subset k → ℤ) (rs : List (Subset k → ℤ)) (t : Amounts k) → IsProperPeeled k r → AreProperPeeled k rs
    → ((s : Subset k) → amount_in k t s ≤ℤ rows_at k (r ∷ rs) s) → IsSandwich k r (floor_of k t rs)
rows-sandwich k r rs t p ps h = record {
  upper_submodular = p.submodular;
  lower_supermodular = λ a b. omega (arith, ints, sum_modular k t a b, rows-submodular k rs ps a b);
  in_order = λ s. omega (arith, ints, h s);
  upper_none = p.at_none;
  lower_none = omega (arith, ints, sum_none k t, rows-empty k rs ps);
}

-- what is left lies in the sum of the later rows
pub left-fits : (k : ℕ) (r : Subset k → ℤ) (rs : List (Subset k → ℤ)) (t x : Amounts k) → LiesBetween k r (floor_of k t rs) x
    → (s : Subset k) → amount_in k (without k t x) s ≤ℤ rows_at k rs s
left-fits k r rs t x b s = omega (arith, ints, b.over s, sum_minus k t x s)

pub exact_of : (k : ℕ) (r : Subset k → ℤ) (rs : List (Subset k → ℤ)) (t x : Amounts k) → LiesBetween k r (floor_of k t rs) x
    → amount_in k t (every k) ≡ rows_at k (r ∷ rs) (every k) → amount_in k x (every k) ≡ r (every k)
exact_of k r rs t x b e = omega (arith, ints, b.over (every k), b.under (every k))

-- amounts that are nowhere positive together, and 0 in all, are 0
pub zero-from : (k : ℕ) (y : Amounts k) → ((s : Subset k) → amount_in k y s ≤ℤ pos 0) → amount_in k y (every k) ≡ pos 0 → y ≡ zeros k
zero-from zero y h e = refl
zero-from (suc k) y h e =
    let first = h (true, none k) in
    let rest = h (false, every k) in
    let n = sum_none k y.1 in
    ap₂ (λ (a : ℤ) (b : Amounts k). (a, b)) (omega (arith, ints, first, rest, n, e))
    (zero-from k y.1 (λ s. omega (arith, ints, h (false, s))) (omega (arith, ints, first, rest, n, e)))

pub shared : (k : ℕ) (rs : List (Subset k → ℤ)) (t : Amounts k) → AreProperPeeled k rs
    → ((s : Subset k) → amount_in k t s ≤ℤ rows_at k rs s) → amount_in k t (every k) ≡ rows_at k rs (every k)
    → AreSharesPeeled k rs (shares k rs t) t
unfolding shares
shared k [] t p h e = zero-from k t h e
shared k (r ∷ rs) t p h e =
    let x : Amounts k = greedy k r (floor_of k t rs) in
    let b : LiesBetween k r (floor_of k t rs) x = between_greedy k r _ (rows-sandwich k r rs t p.0 p.1 h) in
    let f : amount_in k x (every k) ≡ r (every k) = exact_of k r rs t x b e in (
      record { within = b.under; exact = f },
      shared k rs (without k t x) p.1 (left-fits k r rs t x b) (omega (arith, ints, sum_minus k t x (every k))),
    )

-- what lies between has at most the greatest amount of the first choice
pub most-bounds : (k : ℕ) (r g : Subset (suc k) → ℤ) (z : Amounts (suc k)) → LiesBetween (suc k) r g z → z.0 ≤ℤ most k r g
most-bounds k r g z b =
    let a = least-at k (λ s. r (true, s) -ℤ g (false, s)) in
    omega (arith, ints, a.1, b.under (true, a.0), b.over (false, a.0))

split_le : (a b : ℤ) → a ≤ℤ b → (a <ℤ b) ⊎ (a ≡ b)
split_le a b h = grind (arith, ints)

pub greedy-greatest : (k : ℕ) (r g : Subset k → ℤ) (z : Amounts k) → LiesBetween k r g z → IsLexAtMostPeeled k z (greedy k r g)
unfolding greedy
greedy-greatest zero r g z b = tt
greedy-greatest (suc k) r g z b =
    elim (split_le z.0 (most k r g) (most-bounds k r g z b)) [
      | inl lt ↦ inl lt
      | inr e ↦ inr (e, greedy-greatest k (cut k r (most k r g)) (lift k g (most k r g)) z.1 (subst (λ v. LiesBetween k (cut k r v) (lift k g v) z.1) e (between_tail k r g z.0 z.1 b)))
    ]

pub share-fits : (k : ℕ) (rs : List (Subset k → ℤ)) (xs : List (Amounts k)) (t : Amounts k) → AreSharesPeeled k rs xs t → (s : Subset k) → amount_in k t s ≤ℤ rows_at k rs s
share-fits k [] [] t h s = omega (arith, ints, zeros-sum k s, ap (λ y. amount_in k y s) h)
share-fits k [] (x ∷ xs) t h s = absurd h
share-fits k (r ∷ rs) [] t h s = absurd h
share-fits k (r ∷ rs) (x ∷ xs) t h s = omega (arith, ints, h.0.within s, share-fits k rs xs (without k t x) h.1 s, sum_minus k t x s)

pub completable-between : (k : ℕ) (r : Subset k → ℤ) (rs : List (Subset k → ℤ)) (t z : Amounts k) (zs : List (Amounts k))
    → FitsPeeled k r z → AreSharesPeeled k rs zs (without k t z) → LiesBetween k r (floor_of k t rs) z
completable-between k r rs t z zs f h = record { over = λ s. omega (arith, ints, share-fits k rs zs (without k t z) h s, sum_minus k t z s); under = f.within }

pub greatest : (k : ℕ) (rs : List (Subset k → ℤ)) (t : Amounts k) → AreProperPeeled k rs
    → ((s : Subset k) → amount_in k t s ≤ℤ rows_at k rs s) → AreGreatestPeeled k rs (shares k rs t) t
unfolding shares
greatest k [] t p h = tt
greatest k (r ∷ rs) t p h =
    let x : Amounts k = greedy k r (floor_of k t rs) in
    let b : LiesBetween k r (floor_of k t rs) x = between_greedy k r _ (rows-sandwich k r rs t p.0 p.1 h) in (
      (λ z zs f c. greedy-greatest k r _ z (completable-between k r rs t z zs f c)),
      greatest k rs (without k t x) p.1 (left-fits k r rs t x b),
    )
