-- A vector in the middle between two others has at most half of their sum; so the slope along a set never falls.
use Rattle.std.proofs.Common.{◌≡◌, ℕ, zero, suc, ◌+◌, ◌≤◌, ◌↔◌, Bool, true, false, cond, ℤ, pos, neg_ℤ, ◌+ℤ◌, ◌-ℤ◌, ◌*ℤ◌, ◌≤ℤ◌, refl, arith, ap, IsTrue, int_eq}
use Rattle.std.proofs.lemmas.Int.{ints}
use Rattle.std.proofs.lemmas.Bool.{false≢true}
use Rattle.mix_num.specs.Vectors.{Vector, Choices, bit, plus, minus, ray}
use Rattle.mix_law.specs.Members.{KeepsLocal, IsWhereGreatest}
use Rattle.mix_num.proofs.Equalities.{int_eq_is}
use Rattle.mix_law.proofs.Exchanges.{exchange_at, bound}

-- z + c and z - c
abbrev pub up_by : Vector → Vector → Vector
up_by z c = λ k. z k +ℤ c k

abbrev pub down_by : Vector → Vector → Vector
down_by z c = λ k. z k -ℤ c k

-- the choices at which c is m
abbrev where_is : Vector → ℤ → Choices
where_is c m = λ k. int_eq (c k) m

where_twice : (z c m : ℤ) → IsTrue (int_eq c m) ↔ ((z +ℤ c) -ℤ (z -ℤ c) ≡ m +ℤ m)
where_twice z c m = let e = int_eq_is c m in (λ t. let r = e.0 t in omega (arith, ints), λ t. e.1 (omega (arith, ints)))

less_at : (c : ℤ) (h : ℕ) (s : Bool) → c ≤ℤ pos (suc h) → (IsTrue s ↔ (c ≡ pos (suc h))) → (c -ℤ bit s) ≤ℤ pos h
less_at c h true l e = omega (arith, ints)
less_at c h false l e = let q : (c ≡ pos (suc h)) → ⊥ = λ r. false≢true (e.1 r) in omega (arith, ints)

stays_at : (c : ℤ) (h : ℕ) (s : Bool) → pos 0 ≤ℤ c → (IsTrue s ↔ (c ≡ pos (suc h))) → pos 0 ≤ℤ (c -ℤ bit s)
stays_at c h true l e = let q = e.0 refl in omega (arith, ints)
stays_at c h false l e = omega (arith, ints)

rises_at : (c : ℤ) (t : ℕ) (s : Bool) → neg_ℤ c ≤ℤ pos t → neg_ℤ (c -ℤ bit s) ≤ℤ pos (suc t)
rises_at c t true l = omega (arith, ints)
rises_at c t false l = omega (arith, ints)

abbrev opposite : Vector → Vector
opposite c = λ k. neg_ℤ (c k)

module _ {n : ℕ} {f : Vector → ℤ} {w : ℤ} (v : KeepsLocal n f w) where
  -- one exchange of the two vectors round z moves both nearer to it
  nearer : (z c : Vector) (m : ℤ) → ((k : ℕ) → k ≤ n → c k ≤ℤ m) → (f (up_by z (minus c (where_is c m))) +ℤ f (down_by z (minus c (where_is c m)))) ≤ℤ (f (up_by z c) +ℤ f (down_by z c))
  nearer z c m h =
      let s = where_is c m in
      let g : IsWhereGreatest n (up_by z c) (down_by z c) (m +ℤ m) s = record { bound = λ k l. let b = h k l in omega (arith, ints); members = λ k l. where_twice (z k) (c k) m } in
      let e = exchange_at v (up_by z c) (down_by z c) (m +ℤ m) s g in
      let p = v.reads (minus (up_by z c) s) (up_by z (minus c s)) (λ k l. omega (arith, ints)) in
      let q = v.reads (plus (down_by z c) s) (down_by z (minus c s)) (λ k l. omega (arith, ints)) in
      omega (arith, ints)

  -- the middle, where c lies from 0 to h
  middle_above : (z : Vector) (h : ℕ) (c : Vector) → ((k : ℕ) → k ≤ n → c k ≤ℤ pos h) → ((k : ℕ) → k ≤ n → pos 0 ≤ℤ c k) → (f z +ℤ f z) ≤ℤ (f (up_by z c) +ℤ f (down_by z c))
  middle_above z zero c a b =
      let p = v.reads (up_by z c) z (λ k l. let q = a k l in let r = b k l in omega (arith, ints)) in
      let q = v.reads (down_by z c) z (λ k l. let q = a k l in let r = b k l in omega (arith, ints)) in
      omega (arith, ints)
  middle_above z (suc h) c a b =
      let s = where_is c (pos (suc h)) in
      let e = nearer z c (pos (suc h)) a in
      let r = middle_above z h (minus c s) (λ k l. less_at (c k) h (s k) (a k l) (int_eq_is (c k) (pos (suc h)))) (λ k l. stays_at (c k) h (s k) (b k l) (int_eq_is (c k) (pos (suc h)))) in
      omega (arith, ints)

  middle_from : (z : Vector) (t h : ℕ) (c : Vector) → ((k : ℕ) → k ≤ n → c k ≤ℤ pos h) → ((k : ℕ) → k ≤ n → neg_ℤ (c k) ≤ℤ pos t) → (f z +ℤ f z) ≤ℤ (f (up_by z c) +ℤ f (down_by z c))
  middle_from z t zero c a b =
      let r = middle_above z t (opposite c) b (λ k l. let q = a k l in omega (arith, ints)) in
      let p = v.reads (up_by z (opposite c)) (down_by z c) (λ k l. omega (arith, ints)) in
      let q = v.reads (down_by z (opposite c)) (up_by z c) (λ k l. omega (arith, ints)) in
      omega (arith, ints)
  middle_from z t (suc h) c a b =
      let s = where_is c (pos (suc h)) in
      let e = nearer z c (pos (suc h)) a in
      let r = middle_from z (suc t) h (minus c s) (λ k l. less_at (c k) h (s k) (a k l) (int_eq_is (c k) (pos (suc h)))) (λ k l. rises_at (c k) t (s k) (b k l)) in
      omega (arith, ints)

  pub middle : (z c : Vector) → (f z +ℤ f z) ≤ℤ (f (up_by z c) +ℤ f (down_by z c))
  middle z c =
      let p = bound c (suc n) in
      let q = bound (opposite c) (suc n) in
      middle_from z q.0 p.0 c (λ k i. p.1 k (omega arith)) (λ k i. q.1 k (omega arith))

  -- the same with the sum of two vectors in the middle, between their doubles
  pub middle_of_doubles : (x y : Vector) → (f (λ k. x k +ℤ y k) +ℤ f (λ k. x k +ℤ y k)) ≤ℤ (f (λ k. pos 2 *ℤ x k) +ℤ f (λ k. pos 2 *ℤ y k))
  middle_of_doubles x y =
      let z : Vector = λ k. x k +ℤ y k in
      let c : Vector = λ k. x k -ℤ y k in
      let m = middle z c in
      let p = v.reads (up_by z c) (λ k. pos 2 *ℤ x k) (λ k l. omega (arith, ints)) in
      let q = v.reads (down_by z c) (λ k. pos 2 *ℤ y k) (λ k l. omega (arith, ints)) in
      omega (arith, ints)

ray_up : (a : ℤ) (k : ℕ) (s : Bool) → (a +ℤ cond s (pos (suc k)) (pos 0)) +ℤ bit s ≡ a +ℤ cond s (pos (suc (suc k))) (pos 0)
ray_up a k true = omega (arith, ints)
ray_up a k false = omega (arith, ints)

ray_down : (a : ℤ) (k : ℕ) (s : Bool) → (a +ℤ cond s (pos (suc k)) (pos 0)) -ℤ bit s ≡ a +ℤ cond s (pos k) (pos 0)
ray_down a k true = omega (arith, ints)
ray_down a k false = omega (arith, ints)

-- the slope along a set never falls
pub slopes_rise : {n : ℕ} {f : Vector → ℤ} {w : ℤ} → KeepsLocal n f w → (x : Vector) (s : Choices) (k : ℕ) → (f (ray x (suc k) s) -ℤ f (ray x k s)) ≤ℤ (f (ray x (suc (suc k)) s) -ℤ f (ray x (suc k) s))
slopes_rise v x s k =
    let m = middle v (ray x (suc k) s) (λ i. bit (s i)) in
    let p = v.reads (up_by (ray x (suc k) s) (λ i. bit (s i))) (ray x (suc (suc k)) s) (λ i l. ray_up (x i) k (s i)) in
    let q = v.reads (down_by (ray x (suc k) s) (λ i. bit (s i))) (ray x k s) (λ i l. ray_down (x i) k (s i)) in
    omega (arith, ints)

-- the same, with sums in place of successors
pub rising : {n : ℕ} {f : Vector → ℤ} {w : ℤ} → KeepsLocal n f w → (x : Vector) (s : Choices) (k : ℕ) → (f (ray x (k + 1) s) -ℤ f (ray x k s)) ≤ℤ (f (ray x (k + 2) s) -ℤ f (ray x (k + 1) s))
rising {f} v x s k =
    let r = slopes_rise v x s k in
    let one : k + 1 ≡ suc k = omega arith in
    let two : k + 2 ≡ suc (suc k) = omega arith in
    let p = ap (λ z. f (ray x z s)) one in
    let q = ap (λ z. f (ray x z s)) two in
    omega (arith, ints)
