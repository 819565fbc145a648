-- What the Lyapunov function keeps, since each member's function does: it reads the goods alone, shifts by a total, and keeps the local law.
use Rattle.std.proofs.Common.{◌≡◌, ℕ, zero, suc, List, [], ◌∷◌, length, map, All, ℤ, pos, ◌+ℤ◌, ◌-ℤ◌, ◌*ℤ◌, refl, arith, ap, ap₂, subst, cond, eqb, Bool, true, false, ◌≤◌, ◌<◌, ◌≢◌, ◌⊎◌, inl, inr, ◌≤ℤ◌}
use Rattle.std.proofs.lemmas.Int.{ints}
use Rattle.std.proofs.Math.IntN.{*ℤ_comm}
use Rattle.std.proofs.lemmas.Bool.{ne_eqb}
use Rattle.std.proofs.lemmas.Nat.Bits.{bit_at-zero}
use Rattle.std.proofs.lemmas.Bool.Decides.{eqb_tells}
use Rattle.std.proofs.lemmas.List.Elements.{All-head, All-tail}
use Rattle.mix_num.proofs.Products.{*ℤ-sum, *ℤ-difference}
use Rattle.mix_num.specs.Vectors.{Vector, Choices, bit, plus, only, members as numbered, ray, dot_to, with_null, sum_to}
use Rattle.mix_law.specs.Members.{IsLNatural, KeepsLocal, keeps_local, fall_of}
use Rattle.mix_num.proofs.Costs.{dot_plus}
use Rattle.mix_law.proofs.Linear.{plus_linear, sum_keeps}
use Rattle.mix_market.specs.Lyapunov.{sum_of, lyapunov}
use Rattle.mix_market.specs.Memberships.{sum_of_totals}
use Rattle.mix_market.specs.Steepest.{slope_of}

pub lyapunov-is : (functions : List (Vector → ℤ)) (supply : List ℤ) (x : Vector) → lyapunov functions supply x ≡ sum_of functions x +ℤ dot_to (suc (length supply)) (with_null supply) x
unfolding lyapunov
lyapunov-is functions supply x = refl

-- the slope is the supply of the set less the members' fall
pub slope-is : (functions : List (Vector → ℤ)) (supply : List ℤ) (x : Vector) (s : Choices) → slope_of (lyapunov functions supply) x s ≡ dot_to (suc (length supply)) (with_null supply) (λ good. bit (s good)) -ℤ fall_of (sum_of functions) x s
slope-is functions supply x s =
    let a = lyapunov-is functions supply x in
    let b = lyapunov-is functions supply (plus x s) in
    let d = dot_plus (suc (length supply)) (with_null supply) x (λ good. bit (s good)) in
    omega (arith, ints)

-- the sum of functions that are linear along a set is so
pub sum_linear : {D : Type 0} (f : D → Vector → ℤ) (members : List D) (x : Vector) (s : Choices) (m : ℕ) → All (λ member. f member (ray x m s) ≡ f member x -ℤ (pos m *ℤ fall_of (f member) x s)) members → sum_of (map f members) (ray x m s) ≡ sum_of (map f members) x -ℤ (pos m *ℤ fall_of (sum_of (map f members)) x s)
sum_linear f [] x s m h = let e = *ℤ-difference (pos m) (pos 0) (pos 0) in omega (arith, ints)
sum_linear {D} f (member ∷ members) x s m h =
    let P : D → Type 0 = λ member. f member (ray x m s) ≡ f member x -ℤ (pos m *ℤ fall_of (f member) x s) in
    let first = All-head P member members h in
    let others = sum_linear f members x s m (All-tail P member members h) in
    let e = *ℤ-sum (pos m) (fall_of (f member) x s) (fall_of (sum_of (map f members)) x s) in
    let d = ap (λ z. pos m *ℤ z) (regroup (f member x) (sum_of (map f members) x) (f member (plus x s)) (sum_of (map f members) (plus x s))) in
    omega (arith, ints)
  where
    regroup : (a b c d : ℤ) → (a +ℤ b) -ℤ (c +ℤ d) ≡ (a -ℤ c) +ℤ (b -ℤ d)
    regroup a b c d = omega (arith, ints)

-- a linear function of m steps along a set is m times that of one
dot_steps : (q : Vector) (s : Choices) (m n : ℕ) → dot_to n q (λ k. cond (s k) (pos m) (pos 0)) ≡ pos m *ℤ dot_to n q (λ k. bit (s k))
dot_steps q s m zero = omega (arith, ints)
dot_steps q s m (suc n) =
    let others = dot_steps q s m n in
    let e = *ℤ-sum (pos m) (dot_to n q (λ k. bit (s k))) (q n *ℤ bit (s n)) in
    let one = at (q n) (s n) in
    omega (arith, ints)
  where
    at : (a : ℤ) (b : Bool) → a *ℤ cond b (pos m) (pos 0) ≡ pos m *ℤ (a *ℤ bit b)
    at a true = let e = *ℤ_comm a (pos m) in let z : a *ℤ pos 1 ≡ a = omega (arith, ints) in let d = ap (λ v. pos m *ℤ v) z in omega (arith, ints)
    at a false = let z : a *ℤ pos 0 ≡ pos 0 = omega (arith, ints) in let d = ap (λ v. pos m *ℤ v) z in omega (arith, ints)

-- so where the sum of the members' functions is linear along a set, the Lyapunov function is
pub lyapunov_linear : (functions : List (Vector → ℤ)) (supply : List ℤ) (x : Vector) (s : Choices) (m : ℕ) → sum_of functions (ray x m s) ≡ sum_of functions x -ℤ (pos m *ℤ fall_of (sum_of functions) x s) → lyapunov functions supply (ray x m s) ≡ lyapunov functions supply x +ℤ (pos m *ℤ slope_of (lyapunov functions supply) x s)
lyapunov_linear functions supply x s m h =
    let a = lyapunov-is functions supply x in
    let b = lyapunov-is functions supply (ray x m s) in
    let linear = dot_to (suc (length supply)) (with_null supply) (λ good. bit (s good)) in
    let d = dot_plus (suc (length supply)) (with_null supply) x (λ k. cond (s k) (pos m) (pos 0)) in
    let e = dot_steps (with_null supply) s m (suc (length supply)) in
    let slope = ap (λ z. pos m *ℤ z) (slope-is functions supply x s) in
    let split = *ℤ-difference (pos m) linear (fall_of (sum_of functions) x s) in
    omega (arith, ints)

-- the sum of the members' functions keeps what each of them does
members_keep : {D : Type 0} {goods : D → ℕ} {f : D → Vector → ℤ} {total : D → ℤ} {top : D → ℕ → ℤ} (natural : (member : D) → IsLNatural (goods member) (f member) (total member) (top member)) (n : ℕ) (members : List D) → All (λ member. goods member ≡ n) members → KeepsLocal n (sum_of (map f members)) (sum_of_totals total members)
members_keep natural n [] h = record {
  reads = λ x y e. refl;
  shift = λ x k. omega (arith, ints);
  local = λ x i j a b e. omega (arith, ints);
}
members_keep {D} {goods} {f} {total} {top} natural n (member ∷ members) h =
    let P : D → Type 0 = λ member. goods member ≡ n in
    let first = subst (λ (m : ℕ). KeepsLocal m (f member) (total member)) (All-head P member members h) (keeps_local (natural member)) in
    sum_keeps first (members_keep natural n members (All-tail P member members h))

-- a good that no member wants any more
sum_far : {D : Type 0} {goods : D → ℕ} {f : D → Vector → ℤ} {total : D → ℤ} {top : D → ℕ → ℤ} (natural : (member : D) → IsLNatural (goods member) (f member) (total member) (top member)) (n : ℕ) (members : List D) → All (λ member. goods member ≡ n) members → (x : Vector) (good : ℕ) → 1 ≤ good → good ≤ n → All (λ member. top member good ≤ℤ (x good -ℤ x 0)) members → sum_of (map f members) (plus x (only good)) ≡ sum_of (map f members) x
sum_far natural n [] h x good a b t = refl
sum_far {D} {goods} {f} {total} {top} natural n (member ∷ members) h x good a b t =
    let P : D → Type 0 = λ member. goods member ≡ n in
    let Q : D → Type 0 = λ member. top member good ≤ℤ (x good -ℤ x 0) in
    let own = All-head P member members h in
    let first = (natural member).far x good a (omega arith) (All-head Q member members t) in
    let others = sum_far natural n members (All-tail P member members h) x good a b (All-tail Q member members t) in
    ap₂ (λ (u v : ℤ). u +ℤ v) first others

-- a linear function of one step of one choice is its coefficient
dot_past : (q : Vector) (m i : ℕ) → m ≤ i → dot_to m q (λ k. bit (only i k)) ≡ pos 0
dot_past q zero i h = refl
dot_past q (suc m) i h =
    let before = dot_past q m i (omega arith) in
    let other : bit (only i m) ≡ pos 0 = ap bit (ne_eqb m i (λ e. omega arith)) in
    let none = ap (λ v. q m *ℤ v) other in
    omega (arith, ints)

dot_only : (q : Vector) (m i : ℕ) → i < m → dot_to m q (λ k. bit (only i k)) ≡ q i
dot_only q zero i h = absurd (omega arith)
dot_only q (suc m) i h = at (eqb_tells m i) (λ l. dot_only q m i l)
  where
    at : ((eqb m i ≡ true) × (m ≡ i)) ⊎ ((eqb m i ≡ false) × (m ≢ i)) → (i < m → dot_to m q (λ k. bit (only i k)) ≡ q i) → dot_to m q (λ k. bit (only i k)) +ℤ (q m *ℤ bit (only i m)) ≡ q i
    at (inl e) rest =
        let before = dot_past q m i (omega arith) in
        let own = ap (λ (b : Bool). q m *ℤ bit b) e.0 in
        let one : q m *ℤ pos 1 ≡ q m = omega (arith, ints) in
        let same = ap q e.1 in
        omega (arith, ints)
    at (inr e) rest =
        let before = rest (omega arith) in
        let none = ap (λ (b : Bool). q m *ℤ bit b) e.0 in
        omega (arith, ints)

-- the Lyapunov function keeps the local law, with what the members' totals exceed the supply by
pub lyapunov_keeps : {D : Type 0} {goods : D → ℕ} {f : D → Vector → ℤ} {total : D → ℤ} {top : D → ℕ → ℤ} (natural : (member : D) → IsLNatural (goods member) (f member) (total member) (top member)) (members : List D) (supply : List ℤ) → All (λ member. goods member ≡ length supply) members → KeepsLocal (length supply) (lyapunov (map f members) supply) (sum_of_totals total members -ℤ sum_to (suc (length supply)) (with_null supply))
unfolding lyapunov
lyapunov_keeps natural members supply h = plus_linear (with_null supply) (members_keep natural (length supply) members h)

-- raising a good that no member wants any more costs its supply
pub lyapunov_far : {D : Type 0} {goods : D → ℕ} {f : D → Vector → ℤ} {total : D → ℤ} {top : D → ℕ → ℤ} (natural : (member : D) → IsLNatural (goods member) (f member) (total member) (top member)) (members : List D) (supply : List ℤ) → All (λ member. goods member ≡ length supply) members → (x : Vector) (good : ℕ) → 1 ≤ good → good ≤ length supply → All (λ member. top member good ≤ℤ (x good -ℤ x 0)) members → lyapunov (map f members) supply (plus x (only good)) ≡ lyapunov (map f members) supply x +ℤ with_null supply good
lyapunov_far {D} {goods} {f} natural members supply h x good a b t =
    let functions = map f members in
    let before = lyapunov-is functions supply x in
    let after = lyapunov-is functions supply (plus x (only good)) in
    let same = sum_far natural (length supply) members h x good a b t in
    let d = dot_plus (suc (length supply)) (with_null supply) x (λ k. bit (only good k)) in
    let own = dot_only (with_null supply) (suc (length supply)) good (omega arith) in
    omega (arith, ints)

-- the empty set has the slope 0
pub slope-none : {n : ℕ} {l : Vector → ℤ} {w : ℤ} → KeepsLocal n l w → (x : Vector) → slope_of l x (numbered 0) ≡ pos 0
slope-none {n} {l} c x =
    let e = c.reads (plus x (numbered 0)) x (λ k h. let z = ap (λ (v : ℕ). x k +ℤ bit (eqb v 1)) (bit_at-zero k) in omega (arith, ints)) in
    omega (arith, ints)
