-- The lattice form of the local law: the lesser and the greater entries of two vectors are together no more than the two.
use Rattle.std.proofs.Common.{◌≡◌, ℕ, zero, suc, ◌+◌, ◌≤◌, ◌<◌, ◌≢◌, ◌⊎◌, inl, inr, Bool, true, false, cond, eqb, List, [], ◌∷◌, ℤ, pos, negsuc, ◌+ℤ◌, ◌-ℤ◌, ◌≤ℤ◌, refl, arith, sym, ap, ◌∙◌, subst, eq-or-lt_of_le}
use Rattle.std.proofs.lemmas.Int.{ints, clamps}
use Rattle.std.proofs.lemmas.Bool.Decides.{nat_tests}
use Rattle.std.specs.Int.{int_min, int_max}
use mathlib.Core.Path.{fun_ext}
use Rattle.mix_num.specs.Vectors.{Vector, bit, plus, only, Agree}
use Rattle.mix_law.specs.Members.{KeepsLocal}

-- how often k stands in a list
abbrev pub count : ℕ → List ℕ → ℕ
count k [] = 0
count k (i ∷ l) = cond (eqb k i) 1 0 + count k l

-- a vector raised by one at each choice of a list
abbrev pub along : Vector → List ℕ → Vector
along x [] = x
along x (i ∷ l) = plus (along x l) (only i)

-- what holds of each number of a list
abbrev pub Each : (ℕ → Type 0) → List ℕ → Type 0
Each p [] = Unit {0}
Each p (i ∷ l) = p i × Each p l

along_at : (x : Vector) (l : List ℕ) (k : ℕ) → along x l k ≡ x k +ℤ pos (count k l)
along_at x [] k = omega (arith, ints)
along_at x (i ∷ l) k = step (eqb k i) (along_at x l k)
  where
    step : (b : Bool) → along x l k ≡ x k +ℤ pos (count k l) → along x l k +ℤ bit b ≡ x k +ℤ pos (cond b 1 0 + count k l)
    step true h = omega (arith, ints)
    step false h = omega (arith, ints)

along_swaps : (x : Vector) (l m : List ℕ) → along (along x l) m ≡ along (along x m) l
along_swaps x l m = fun_ext (λ k. omega (arith, ints, along_at (along x l) m k, along_at (along x m) l k, along_at x l k, along_at x m k))

module _ {n : ℕ} {f : Vector → ℤ} {w : ℤ} (c : KeepsLocal n f w) where
  -- many units and one of another choice
  one_more : (x : Vector) (l : List ℕ) (j : ℕ) → j ≤ n → Each (λ i. (i ≤ n) × (i ≢ j)) l → (f x +ℤ f (plus (along x l) (only j))) ≤ℤ (f (along x l) +ℤ f (plus x (only j)))
  one_more x [] j b e = omega (arith, ints)
  one_more x (i ∷ l) j b e =
      let h = one_more x l j b e.1 in
      let k = c.local (along x l) i j e.0.0 b e.0.1 in
      omega (arith, ints)

  -- many units and many of other choices
  many_more : (x : Vector) (l m : List ℕ) → Each (λ j. (j ≤ n) × Each (λ i. (i ≤ n) × (i ≢ j)) l) m → (f x +ℤ f (along (along x l) m)) ≤ℤ (f (along x l) +ℤ f (along x m))
  many_more x l [] e = omega (arith, ints)
  many_more x l (j ∷ m) e =
      let h = many_more x l m e.1 in
      let k = one_more (along x m) l j e.0.0 e.0.1 in
      let q = ap (λ z. f (plus z (only j))) (along_swaps x l m) in
      let r = ap f (along_swaps x l m) in
      omega (arith, ints)

-- a copies of i before a list
abbrev pub times : ℕ → ℕ → List ℕ → List ℕ
times zero i l = l
times (suc a) i l = i ∷ times a i l

-- the list in which each k below m stands d k times
abbrev pub spread : (ℕ → ℕ) → ℕ → List ℕ
spread d zero = []
spread d (suc m) = times (d m) m (spread d m)

count-times_same : (a i : ℕ) (l : List ℕ) → count i (times a i l) ≡ a + count i l
count-times_same zero i l = omega arith
count-times_same (suc a) i l = let h = count-times_same a i l in grind (arith, nat_tests)

count-times_other : (a i k : ℕ) (l : List ℕ) → k ≢ i → count k (times a i l) ≡ count k l
count-times_other zero i k l e = refl
count-times_other (suc a) i k l e = let h = count-times_other a i k l e in grind (arith, nat_tests)

count-spread_past : (d : ℕ → ℕ) (m k : ℕ) → m ≤ k → count k (spread d m) ≡ 0
count-spread_past d zero k h = refl
count-spread_past d (suc m) k h =
    let other : k ≢ m = omega arith in
    count-times_other (d m) m k (spread d m) other ∙ count-spread_past d m k (omega arith)

spread_step : (d : ℕ → ℕ) (m k : ℕ) → (k ≡ m) ⊎ (k < m) → (k < m → count k (spread d m) ≡ d k) → count k (times (d m) m (spread d m)) ≡ d k
spread_step d m k (inl e) ih =
    let q = count-times_same (d m) m (spread d m) in
    let r = count-spread_past d m m (omega arith) in
    let s : count m (times (d m) m (spread d m)) ≡ d m = omega arith in
    let P : ℕ → Type 0 = λ v. count v (times (d m) m (spread d m)) ≡ d v in
    subst P (sym e) s
spread_step d m k (inr l) ih =
    let other : k ≢ m = omega arith in
    count-times_other (d m) m k (spread d m) other ∙ ih l

count-spread : (d : ℕ → ℕ) (m k : ℕ) → k < m → count k (spread d m) ≡ d k
count-spread d zero k h = absurd (omega arith)
count-spread d (suc m) k h = spread_step d m k (eq-or-lt_of_le (omega arith)) (λ l. count-spread d m k l)

Each-times : (p : ℕ → Type 0) (a i : ℕ) (l : List ℕ) → (0 < a → p i) → Each p l → Each p (times a i l)
Each-times p zero i l h e = e
Each-times p (suc a) i l h e = (h (omega arith), Each-times p a i l (λ _. h (omega arith)) e)

pub Each-spread : (p : ℕ → Type 0) (d : ℕ → ℕ) (m : ℕ) → ((k : ℕ) → k < m → 0 < d k → p k) → Each p (spread d m)
Each-spread p d zero h = tt
Each-spread p d (suc m) h = Each-times p (d m) m (spread d m) (λ l. h m (omega arith) l) (Each-spread p d m (λ k l q. h k (omega arith) q))

-- a vector raised by a natural number at each choice
abbrev pub more : Vector → (ℕ → ℕ) → Vector
more x d = λ k. x k +ℤ pos (d k)

pub along-spread : (n : ℕ) (x : Vector) (d : ℕ → ℕ) → Agree n (along x (spread d (suc n))) (more x d)
along-spread n x d k h =
    let a = along_at x (spread d (suc n)) k in
    let b = count-spread d (suc n) k (omega arith) in
    omega (arith, ints)

along-spread_two : (n : ℕ) (x : Vector) (d e : ℕ → ℕ) → Agree n (along (along x (spread d (suc n))) (spread e (suc n))) (more (more x d) e)
along-spread_two n x d e k h =
    let a = along-spread n x d k h in
    let b = along-spread n (along x (spread d (suc n))) e k h in
    omega (arith, ints)

-- the lesser and the greater entries of two vectors
abbrev pub lesser : Vector → Vector → Vector
lesser x y = λ k. int_min (x k) (y k)

abbrev pub greater : Vector → Vector → Vector
greater x y = λ k. int_max (x k) (y k)

-- the part of a number above 0
abbrev pub over : ℤ → ℕ
over (pos n) = n
over (negsuc n) = 0

pub over_is : (z : ℤ) → pos (over z) ≡ int_max z (pos 0)
over_is (pos n) = omega (arith, ints, clamps)
over_is (negsuc n) = omega (arith, ints, clamps)

-- by how much the entries of x lie above those of y
abbrev above : Vector → Vector → ℕ → ℕ
above x y k = over (x k -ℤ y k)

more_first : (n : ℕ) (x y : Vector) → Agree n (more (lesser x y) (above x y)) x
more_first n x y k h = omega (arith, ints, clamps, over_is (x k -ℤ y k))

more_second : (n : ℕ) (x y : Vector) → Agree n (more (lesser x y) (above y x)) y
more_second n x y k h = omega (arith, ints, clamps, over_is (y k -ℤ x k))

more_both : (n : ℕ) (x y : Vector) → Agree n (more (more (lesser x y) (above x y)) (above y x)) (greater x y)
more_both n x y k h = omega (arith, ints, clamps, over_is (x k -ℤ y k), over_is (y k -ℤ x k))

not_both : (a b : ℤ) → 0 < over (a -ℤ b) → 0 < over (b -ℤ a) → ⊥
not_both a b h k = omega (arith, ints, clamps, over_is (a -ℤ b), over_is (b -ℤ a))

module _ {n : ℕ} {f : Vector → ℤ} {w : ℤ} (c : KeepsLocal n f w) where
  -- two raises that meet at no choice
  pub apart : (x : Vector) (u v : ℕ → ℕ) → ((k : ℕ) → k ≤ n → 0 < u k → 0 < v k → ⊥) → (f x +ℤ f (more (more x u) v)) ≤ℤ (f (more x u) +ℤ f (more x v))
  apart x u v h =
      let differ : (i j : ℕ) → i < suc n → 0 < u i → 0 < v j → i ≢ j = λ i j l p q s. h i (omega arith) p (let P : ℕ → Type 0 = λ t. 0 < v t in subst P (sym s) q) in
      let e = Each-spread (λ j. (j ≤ n) × Each (λ i. (i ≤ n) × (i ≢ j)) (spread u (suc n))) v (suc n)
      (λ j l q. (omega arith, Each-spread (λ i. (i ≤ n) × (i ≢ j)) u (suc n) (λ i m r. (omega arith, differ i j m r q)))) in
      let m = many_more c x (spread u (suc n)) (spread v (suc n)) e in
      let a = c.reads _ _ (along-spread n x u) in
      let b = c.reads _ _ (along-spread n x v) in
      let d = c.reads _ _ (along-spread_two n x u v) in
      omega (arith, ints)

  pub lattice : (x y : Vector) → (f (lesser x y) +ℤ f (greater x y)) ≤ℤ (f x +ℤ f y)
  lattice x y =
      let m = apart (lesser x y) (above x y) (above y x) (λ k h. not_both (x k) (y k)) in
      let a = c.reads _ _ (more_first n x y) in
      let b = c.reads _ _ (more_second n x y) in
      let d = c.reads _ _ (more_both n x y) in
      omega (arith, ints)
