-- What follows from the lattice form: a submodular function of sets, the exchange, and that what no set betters is least.
use Rattle.std.proofs.Common.{◌≡◌, ℕ, zero, suc, ◌≤◌, ◌<◌, ◌⊎◌, inl, inr, ◌↔◌, Bool, true, false, cond, ℤ, pos, ◌+ℤ◌, ◌-ℤ◌, ◌≤ℤ◌, refl, arith, sym, subst, eq-or-lt_of_le, IsTrue, int_eq, max}
use Rattle.std.proofs.lemmas.Int.{ints, clamps}
use Rattle.std.proofs.lemmas.Bool.{false≢true}
use Rattle.std.specs.Int.{int_min, int_max}
use Rattle.mix_num.specs.Vectors.{Vector, Choices, bit, plus, minus, shifted, both, either}
use Rattle.mix_num.proofs.Equalities.{int_eq_is}
use Rattle.mix_law.specs.Members.{KeepsLocal, IsWhereGreatest, IsLocallyLeast}
use Rattle.mix_law.proofs.Lattice.{lattice, lesser, greater, over, over_is}

min_bits : (a : ℤ) (s t : Bool) → int_min (a +ℤ bit s) (a +ℤ bit t) ≡ a +ℤ bit (cond s t false)
min_bits a true true = omega (arith, ints, clamps)
min_bits a true false = omega (arith, ints, clamps)
min_bits a false true = omega (arith, ints, clamps)
min_bits a false false = omega (arith, ints, clamps)

max_bits : (a : ℤ) (s t : Bool) → int_max (a +ℤ bit s) (a +ℤ bit t) ≡ a +ℤ bit (cond s true t)
max_bits a true true = omega (arith, ints, clamps)
max_bits a true false = omega (arith, ints, clamps)
max_bits a false true = omega (arith, ints, clamps)
max_bits a false false = omega (arith, ints, clamps)

-- the entries of the two vectors of an exchange, as a lesser and as a greater entry
less_at : (a b m : ℤ) (s : Bool) → (a -ℤ b) ≤ℤ m → (IsTrue s ↔ (a -ℤ b ≡ m)) → int_min a (b +ℤ (m -ℤ pos 1)) ≡ a -ℤ bit s
less_at a b m true h e = let q = e.0 refl in omega (arith, ints, clamps)
less_at a b m false h e = let q : (a -ℤ b ≡ m) → ⊥ = λ r. false≢true (e.1 r) in omega (arith, ints, clamps)

more_at : (a b m : ℤ) (s : Bool) → (a -ℤ b) ≤ℤ m → (IsTrue s ↔ (a -ℤ b ≡ m)) → int_max a (b +ℤ (m -ℤ pos 1)) ≡ (b +ℤ bit s) +ℤ (m -ℤ pos 1)
more_at a b m true h e = let q = e.0 refl in omega (arith, ints, clamps)
more_at a b m false h e = let q : (a -ℤ b ≡ m) → ⊥ = λ r. false≢true (e.1 r) in omega (arith, ints, clamps)

module _ {n : ℕ} {f : Vector → ℤ} {w : ℤ} (c : KeepsLocal n f w) where
  pub submodular_sets : (x : Vector) (s t : Choices) → (f (plus x (both s t)) +ℤ f (plus x (either s t))) ≤ℤ (f (plus x s) +ℤ f (plus x t))
  submodular_sets x s t =
      let h = lattice c (plus x s) (plus x t) in
      let a = c.reads (lesser (plus x s) (plus x t)) (plus x (both s t)) (λ k _. min_bits (x k) (s k) (t k)) in
      let b = c.reads (greater (plus x s) (plus x t)) (plus x (either s t)) (λ k _. max_bits (x k) (s k) (t k)) in
      omega (arith, ints)

  -- with the difference m greatest on S, x and y give nothing away by moving one nearer to each other there
  pub exchange_at : (x y : Vector) (m : ℤ) (s : Choices) → IsWhereGreatest n x y m s → (f (minus x s) +ℤ f (plus y s)) ≤ℤ (f x +ℤ f y)
  exchange_at x y m s g =
      let near = shifted y (m -ℤ pos 1) in
      let l = lattice c x near in
      let a = c.reads (lesser x near) (minus x s) (λ k q. less_at (x k) (y k) m (s k) (g.bound k q) (g.members k q)) in
      let b = c.reads (greater x near) (shifted (plus y s) (m -ℤ pos 1)) (λ k q. more_at (x k) (y k) m (s k) (g.bound k q) (g.members k q)) in
      let p = c.shift y (m -ℤ pos 1) in
      let q = c.shift (plus y s) (m -ℤ pos 1) in
      omega (arith, ints)

-- x - y is at most m
abbrev pub AtMost : ℕ → Vector → Vector → ℤ → Type 0
AtMost n x y m = (k : ℕ) → k ≤ n → (x k -ℤ y k) ≤ℤ m

-- the choices at which x - y is m
abbrev pub set_at : Vector → Vector → ℤ → Choices
set_at x y m = λ k. int_eq (x k -ℤ y k) m

pub set_at_greatest : (n : ℕ) (x y : Vector) (m : ℤ) → AtMost n x y m → IsWhereGreatest n x y m (set_at x y m)
set_at_greatest n x y m h = record { bound = h; members = λ k _. int_eq_is (x k -ℤ y k) m }

-- some bound on the first m entries
pub bound : (d : Vector) (m : ℕ) → (h : ℕ) × ((k : ℕ) → k < m → d k ≤ℤ pos h)
bound d zero = (0, λ k l. absurd (omega arith))
bound d (suc m) =
    let r = bound d m in
    (max r.0 (over (d m)), λ k l. step m r.0 k r.1 (eq-or-lt_of_le (omega arith)))
  where
    step : (m h k : ℕ) → ((k : ℕ) → k < m → d k ≤ℤ pos h) → (k ≡ m) ⊎ (k < m) → d k ≤ℤ pos (max h (over (d m)))
    step m h k r (inl e) =
        let q = over_is (d m) in
        let u : d m ≤ℤ pos (max h (over (d m))) = omega (arith, ints, clamps) in
        let P : ℕ → Type 0 = λ v. d v ≤ℤ pos (max h (over (d m))) in
        subst P (sym e) u
    step m h k r (inr l) = let q = r k l in omega (arith, ints)

-- after a step at the set of the greatest differences these are smaller: where the lower vector rises, and where the upper falls
pub raised_at : (a b : ℤ) (h : ℕ) (s : Bool) → (a -ℤ b) ≤ℤ pos (suc h) → (IsTrue s ↔ (a -ℤ b ≡ pos (suc h))) → (a -ℤ (b +ℤ bit s)) ≤ℤ pos h
raised_at a b h true l e = omega (arith, ints)
raised_at a b h false l e = let q : (a -ℤ b ≡ pos (suc h)) → ⊥ = λ r. false≢true (e.1 r) in omega (arith, ints)

pub lowered_at : (a b : ℤ) (h : ℕ) (s : Bool) → (a -ℤ b) ≤ℤ pos (suc h) → (IsTrue s ↔ (a -ℤ b ≡ pos (suc h))) → ((a -ℤ bit s) -ℤ b) ≤ℤ pos h
lowered_at a b h true l e = omega (arith, ints)
lowered_at a b h false l e = let q : (a -ℤ b ≡ pos (suc h)) → ⊥ = λ r. false≢true (e.1 r) in omega (arith, ints)

-- and what is at or above stays so
pub stays_above : (a b : ℤ) (h : ℕ) (s : Bool) → b ≤ℤ a → (IsTrue s ↔ (a -ℤ b ≡ pos (suc h))) → b ≤ℤ (a -ℤ bit s)
stays_above a b h true l e = let q = e.0 refl in omega (arith, ints)
stays_above a b h false l e = omega (arith, ints)

-- one raise makes a difference greater by one at most
one_further : (a b : ℤ) (t : ℕ) (s : Bool) → (b -ℤ a) ≤ℤ pos t → ((b +ℤ bit s) -ℤ a) ≤ℤ pos (suc t)
one_further a b t true l = omega (arith, ints)
one_further a b t false l = omega (arith, ints)

module _ {n : ℕ} {f : Vector → ℤ} {w : ℤ} (c : KeepsLocal n f w) where
  -- among the vectors at or above x it is enough that no raised set betters x
  pub least_above : (x : Vector) → ((s : Choices) → f x ≤ℤ f (plus x s)) → (h : ℕ) (y : Vector) → AtMost n y x (pos h) → ((k : ℕ) → k ≤ n → x k ≤ℤ y k) → f x ≤ℤ f y
  least_above x up zero y b a =
      let q = c.reads x y (λ k i. let u = b k i in let v = a k i in omega (arith, ints)) in
      omega (arith, ints)
  least_above x up (suc h) y b a =
      let s = set_at y x (pos (suc h)) in
      let g = set_at_greatest n y x (pos (suc h)) b in
      let e = exchange_at c y x (pos (suc h)) s g in
      let r = least_above x up h (minus y s) (λ k q. lowered_at (y k) (x k) h (s k) (b k q) (g.members k q)) (λ k q. stays_above (y k) (x k) h (s k) (a k q) (g.members k q)) in
      let u = up s in
      omega (arith, ints)

  least_from : (x : Vector) → IsLocallyLeast f x → (t h : ℕ) (y : Vector) → AtMost n y x (pos t) → AtMost n x y (pos h) → f x ≤ℤ f y
  least_from x l t zero y b a = least_above x l.up t y b (λ k q. let u = a k q in omega (arith, ints))
  least_from x l t (suc h) y b a =
      let s = set_at x y (pos (suc h)) in
      let g = set_at_greatest n x y (pos (suc h)) a in
      let e = exchange_at c x y (pos (suc h)) s g in
      let r = least_from x l (suc t) h (plus y s) (λ k q. one_further (x k) (y k) t (s k) (b k q)) (λ k q. raised_at (x k) (y k) h (s k) (a k q) (g.members k q)) in
      let u = l.down s in
      omega (arith, ints)

  -- what no set betters is least among all vectors
  pub local_least : (x : Vector) → IsLocallyLeast f x → (y : Vector) → f x ≤ℤ f y
  local_least x l y =
      let p = bound (λ k. y k -ℤ x k) (suc n) in
      let q = bound (λ k. x k -ℤ y k) (suc n) in
      least_from x l p.0 q.0 y (λ k i. p.1 k (omega arith)) (λ k i. q.1 k (omega arith))
