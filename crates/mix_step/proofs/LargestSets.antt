-- Of the steepest sets of a family that is closed under union and intersection, the last by number holds all others.
use Rattle.std.proofs.Common.{◌≡◌, ℕ, ◌+◌, ◌*◌, ◌^◌, ◌/◌, ◌≤◌, ◌<◌, ◌⊎◌, inl, inr, Bool, true, false, cond, eqb, ℤ, pos, ◌+ℤ◌, ◌-ℤ◌, ◌≤ℤ◌, ◌<ℤ◌, refl, arith, sym, ap, ◌∙◌, subst, bit_or, pow-suc, pow_pos, add-one, eq-or-lt_of_le, below_more, ⊎_elim}
use Rattle.std.proofs.lemmas.Int.{ints, clamps}
use Rattle.std.proofs.lemmas.Nat.{le_or_l, or_lt}
use Rattle.std.proofs.lemmas.Nat.Bits.{bit_at-zero}
use Rattle.std.proofs.lemmas.Bool.{false≢true}
use Rattle.std.specs.Int.{int_min, int_max}
use Rattle.mix_num.specs.Vectors.{Vector, Choices, bit, minus, members, both, either}
use Rattle.mix_num.proofs.Masks.{mask_of, mask_below, mask_members, or_members, same_members}
use Rattle.mix_law.specs.Members.{KeepsLocal}
use Rattle.mix_law.proofs.Lattice.{lattice, lesser, greater}
use Rattle.mix_market.specs.LargestFalls.{Tries, MayFall, IsLargestFall}
use Rattle.mix_market.specs.Steepest.{slope_down}
use Rattle.mix_market.proofs.GoodsSets.{even_of}

-- a family of sets of the goods 1 to n with a slope for each, submodular
pub record IsFamily (n : ℕ) (passes : Choices → Type 0) (slope : Choices → ℤ) : Type 0 where
  pub goods : (s : Choices) → passes s → s 0 ≡ false
  pub same : (s t : Choices) → ((k : ℕ) → k ≤ n → s k ≡ t k) → passes s → passes t
  pub union : (s t : Choices) → passes s → passes t → passes (either s t)
  pub meet : (s t : Choices) → passes s → passes t → passes (both s t)
  pub reads : (s t : Choices) → ((k : ℕ) → k ≤ n → s k ≡ t k) → slope s ≡ slope t
  pub submodular : (s t : Choices) → (slope (both s t) +ℤ slope (either s t)) ≤ℤ (slope s +ℤ slope t)

-- of the sets of the family with the numbers 0, 2, .. below 2 * i, this is the last with the least slope
pub record IsLast (n : ℕ) (passes : Choices → Type 0) (slope : Choices → ℤ) (i set : ℕ) (least : ℤ) : Type 0 where
  pub small : set < 2 ^ (n + 1)
  pub own : passes (members set)
  pub is : least ≡ slope (members set)
  pub lowest : (k : ℕ) → k < i → passes (members (2 * k)) → least ≤ℤ slope (members (2 * k))
  pub last : (k : ℕ) → k < i → set < 2 * k → passes (members (2 * k)) → least <ℤ slope (members (2 * k))

-- the empty set alone
pub last_none : (n : ℕ) (passes : Choices → Type 0) (slope : Choices → ℤ) (set : ℕ) → passes (members 0) → slope (members 0) ≡ pos 0 → set ≡ 0 → IsLast n passes slope 1 set (pos 0)
last_none n passes slope set own none e =
    let power = pow_pos (n + 1) in
    record {
      small = omega arith;
      own = subst (λ (v : ℕ). passes (members v)) (sym e) own;
      is = sym (ap (λ (v : ℕ). slope (members v)) e ∙ none);
      lowest = λ k h p. let same : 2 * k ≡ 0 = omega arith in let u = ap (λ (v : ℕ). slope (members v)) same in omega (arith, ints);
      last = λ k h l p. absurd (omega arith);
    }

-- one set more
pub last_next : (n : ℕ) (passes : Choices → Type 0) (slope : Choices → ℤ) (i next set : ℕ) (least : ℤ) (set2 : ℕ) (least2 : ℤ) → i < 2 ^ n → next ≡ 2 * i → set < 2 * i → Tries (passes (members next)) next (slope (members next)) set least set2 least2 → IsLast n passes slope i set least → IsLast n passes slope (i + 1) set2 least2
last_next n passes slope i next set least set2 least2 below number before (inl t) b =
    let power = ap (λ (k : ℕ). 2 ^ k) (add-one n) ∙ pow-suc 2 n in
    let same = ap (λ (v : ℕ). slope (members v)) (t.2 ∙ number) in
    let here = ap (λ (v : ℕ). slope (members v)) number in
    record {
      small = omega arith;
      own = subst (λ (v : ℕ). passes (members v)) (sym t.2) t.0;
      is = omega (arith, ints);
      lowest = below_more (λ k. passes (members (2 * k)) → least2 ≤ℤ slope (members (2 * k))) i (λ k h p. let u = b.lowest k h p in omega (arith, ints)) (λ p. omega (arith, ints));
      last = λ k h l p. absurd (omega arith);
    }
last_next n passes slope i next set least set2 least2 below number before (inr t) b =
    let here = ap (λ (v : ℕ). slope (members v)) number in
    let same = ap (λ (v : ℕ). slope (members v)) t.0 in
    let is = b.is in
    let small = b.small in
    record {
      small = omega arith;
      own = subst (λ (v : ℕ). passes (members v)) (sym t.0) b.own;
      is = omega (arith, ints);
      lowest = below_more (λ k. passes (members (2 * k)) → least2 ≤ℤ slope (members (2 * k))) i (λ k h p. let u = b.lowest k h p in omega (arith, ints)) (λ p. let u = t.2 (subst (λ (v : ℕ). passes (members v)) (sym number) p) in omega (arith, ints));
      last = below_more (λ k. set2 < 2 * k → passes (members (2 * k)) → least2 <ℤ slope (members (2 * k))) i (λ k h l p. let u = b.last k h (omega arith) p in omega (arith, ints)) (λ l p. let u = t.2 (subst (λ (v : ℕ). passes (members v)) (sym number) p) in omega (arith, ints));
    }

-- the best set's number stays below the next one
pub set_before : (passes : Choices → Type 0) (slope : Choices → ℤ) (i next set : ℕ) (least : ℤ) (set2 : ℕ) (least2 : ℤ) → next ≡ 2 * i → set < 2 * i → Tries (passes (members next)) next (slope (members next)) set least set2 least2 → set2 < 2 * (i + 1)
set_before passes slope i next set least set2 least2 number before (inl t) = let e = t.2 in omega arith
set_before passes slope i next set least set2 least2 number before (inr t) = let e = t.0 in omega arith

either_right : (a b : Bool) → b ≡ true → cond a true b ≡ true
either_right true b e = refl
either_right false b e = e

module _ {n : ℕ} {passes : Choices → Type 0} {slope : Choices → ℤ} (f : IsFamily n passes slope) (set : ℕ) (least : ℤ) (b : IsLast n passes slope (2 ^ n) set least) where
  numbered : (t : Choices) → (k : ℕ) → k ≤ n → t k ≡ members (mask_of (n + 1) t) k
  numbered t k h = sym (mask_members (n + 1) t k (omega arith))

  half_of : (k : ℕ) → k < 2 ^ (n + 1) → k / 2 < 2 ^ n
  half_of k h = let power = ap (λ (i : ℕ). 2 ^ i) (add-one n) ∙ pow-suc 2 n in omega arith

  -- no set of the family has a lesser slope
  pub steepest_of : (t : Choices) → passes t → slope (members set) ≤ℤ slope t
  steepest_of t p =
      let k = mask_of (n + 1) t in
      let pass : passes (members k) = f.same t (members k) (numbered t) p in
      let even = even_of k (f.goods (members k) pass) in
      let a = b.lowest (k / 2) (half_of k (mask_below (n + 1) t)) (subst (λ (v : ℕ). passes (members v)) even pass) in
      let same = f.reads t (members k) (numbered t) in
      let double = ap (λ (v : ℕ). slope (members v)) even in
      let is = b.is in
      omega (arith, ints)

  -- and the set holds each of the family with the same slope
  pub largest_of : (t : Choices) → passes t → slope t ≡ slope (members set) → (k : ℕ) → k ≤ n → t k ≡ true → members set k ≡ true
  largest_of t p e j i h =
      let k = mask_of (n + 1) t in
      let joined = bit_or set k in
      let is = b.is in
      let agree : (v : ℕ) → v ≤ n → either (members set) t v ≡ members joined v = λ v l. sym (or_members set k v ∙ ap (λ (u : Bool). cond (members set v) true u) (sym (numbered t v l))) in
      let pass : passes (members joined) = f.same (either (members set) t) (members joined) agree (f.union (members set) t b.own p) in
      let even = even_of joined (f.goods (members joined) pass) in
      let double = ap (λ (v : ℕ). slope (members v)) even in
      let same = f.reads (either (members set) t) (members joined) agree in
      let up = f.submodular (members set) t in
      let low = steepest_of (both (members set) t) (f.meet (members set) t b.own p) in
      let small = half_of joined (or_lt (n + 1) set k b.small (mask_below (n + 1) t)) in
      let all : set ≡ joined = ⊎_elim (λ q. q) (λ q. absurd (let u = b.last (joined / 2) small (omega arith) (subst (λ (v : ℕ). passes (members v)) even pass) in omega (arith, ints))) (eq-or-lt_of_le (le_or_l set k)) in
      ap (λ (v : ℕ). members v j) all ∙ sym (agree j i) ∙ either_right (members set j) (t j) h

-- sets that may fall are such a family, with the slopes down
lower_bits : (a : ℤ) (s t : Bool) → int_min (a -ℤ bit s) (a -ℤ bit t) ≡ a -ℤ bit (cond s true t)
lower_bits a true true = omega (arith, ints, clamps)
lower_bits a true false = omega (arith, ints, clamps)
lower_bits a false true = omega (arith, ints, clamps)
lower_bits a false false = omega (arith, ints, clamps)

upper_bits : (a : ℤ) (s t : Bool) → int_max (a -ℤ bit s) (a -ℤ bit t) ≡ a -ℤ bit (cond s t false)
upper_bits a true true = omega (arith, ints, clamps)
upper_bits a true false = omega (arith, ints, clamps)
upper_bits a false true = omega (arith, ints, clamps)
upper_bits a false false = omega (arith, ints, clamps)

pub both_left : (a b : Bool) → cond a b false ≡ true → a ≡ true
both_left true b e = refl
both_left false b e = absurd (false≢true e)

pub either_cases : (a b : Bool) → cond a true b ≡ true → (a ≡ true) ⊎ (b ≡ true)
either_cases true b e = inl refl
either_cases false b e = inr e

pub either_false : (a b : Bool) → a ≡ false → b ≡ false → cond a true b ≡ false
either_false true b e g = absurd (false≢true (sym e))
either_false false b e g = g

pub both_false : (a b : Bool) → a ≡ false → cond a b false ≡ false
both_false true b e = absurd (false≢true (sym e))
both_false false b e = refl

module _ {n : ℕ} {l : Vector → ℤ} {w : ℤ} (c : KeepsLocal n l w) (bounds x : Vector) where
  -- lowering along sets is submodular, as raising is
  pub submodular_down : (s t : Choices) → (l (minus x (both s t)) +ℤ l (minus x (either s t))) ≤ℤ (l (minus x s) +ℤ l (minus x t))
  submodular_down s t =
      let h = lattice c (minus x s) (minus x t) in
      let a = c.reads (lesser (minus x s) (minus x t)) (minus x (either s t)) (λ k _. lower_bits (x k) (s k) (t k)) in
      let b = c.reads (greater (minus x s) (minus x t)) (minus x (both s t)) (λ k _. upper_bits (x k) (s k) (t k)) in
      omega (arith, ints)

  pub falls_family : IsFamily n (MayFall n bounds x) (slope_down l x)
  falls_family = record {
    goods = λ s m. m.goods;
    same = λ s t e m. record { goods = sym (e 0 (omega arith)) ∙ m.goods; above = λ k i h. m.above k i (e k i ∙ h) };
    union = λ s t m q. record { goods = either_false (s 0) (t 0) m.goods q.goods; above = λ k i h. ⊎_elim (λ u. m.above k i u) (λ u. q.above k i u) (either_cases (s k) (t k) h) };
    meet = λ s t m q. record { goods = both_false (s 0) (t 0) m.goods; above = λ k i h. m.above k i (both_left (s k) (t k) h) };
    reads = λ s t e. let same = c.reads (minus x s) (minus x t) (λ k i. ap (λ (b : Bool). x k -ℤ bit b) (e k i)) in omega (arith, ints);
    submodular = λ s t. let u = submodular_down s t in omega (arith, ints);
  }

  -- so the last of the steepest sets is the largest
  pub last_fall : (set : ℕ) (least : ℤ) → IsLast n (MayFall n bounds x) (slope_down l x) (2 ^ n) set least → IsLargestFall n l bounds x (members set)
  last_fall set least b = record { may = b.own; steepest = steepest_of falls_family set least b; largest = largest_of falls_family set least b }

-- the empty set may fall, and has the slope 0
pub empty_may_fall : (n : ℕ) (floor x : Vector) → MayFall n floor x (members 0)
empty_may_fall n floor x = record { goods = nothing 0; above = λ k i h. absurd (false≢true (sym (nothing k) ∙ h)) }
  where
    nothing : (k : ℕ) → members 0 k ≡ false
    nothing k = ap (λ (v : ℕ). eqb v 1) (bit_at-zero k)

pub slope_down-none : {n : ℕ} {l : Vector → ℤ} {w : ℤ} → KeepsLocal n l w → (x : Vector) → slope_down l x (members 0) ≡ pos 0
slope_down-none {n} {l} c x =
    let e = c.reads (minus x (members 0)) x (λ k h. let z = ap (λ (v : ℕ). x k -ℤ bit (eqb v 1)) (bit_at-zero k) in omega (arith, ints)) in
    omega (arith, ints)

-- two largest falls are one
pub alike : (a b : Bool) → (a ≡ true → b ≡ true) → (b ≡ true → a ≡ true) → a ≡ b
alike true b h k = sym (h refl)
alike false true h k = k refl
alike false false h k = refl

pub one_fall : (n : ℕ) (l : Vector → ℤ) (floor x : Vector) (a b : ℕ) → a < 2 ^ (n + 1) → b < 2 ^ (n + 1) → IsLargestFall n l floor x (members a) → IsLargestFall n l floor x (members b) → a ≡ b
one_fall n l floor x a b small_a small_b p q =
    let u = p.steepest (members b) q.may in
    let v = q.steepest (members a) p.may in
    let same : slope_down l x (members b) ≡ slope_down l x (members a) = omega (arith, ints) in
    same_members (n + 1) a b small_a small_b (λ k h. alike (members a k) (members b k) (q.largest (members a) p.may (sym same) k (omega arith)) (p.largest (members b) q.may same k (omega arith)))
