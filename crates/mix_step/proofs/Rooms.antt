-- How far prices may still rise, and that a least step leaves less room.
use Rattle.std.proofs.Common.{◌≡◌, ℕ, zero, suc, ◌+◌, ◌<◌, ◌≤◌, Bool, true, false, cond, ℤ, pos, ◌+ℤ◌, ◌-ℤ◌, ◌<ℤ◌, ◌≤ℤ◌, refl, arith, ap, ◌∙◌, ◌⊎◌, inl, inr, eq-or-lt_of_le, sym, eqb}
use Rattle.std.proofs.lemmas.Int.{ints, clamps}
use Rattle.mix_num.specs.Vectors.{Vector, Choices, bit, plus, minus, members}
use Rattle.mix_num.specs.Moves.{IsSetOfGoods}
use Rattle.mix_num.proofs.Masks.{same_members}
use Rattle.std.proofs.lemmas.Nat.{pow_pos}
use Rattle.std.proofs.lemmas.Nat.Bits.{bit_at-zero}
use Rattle.mix_law.proofs.Lattice.{over, over_is}

-- the units up to 1,000,000 that the goods 1 to n may rise together
abbrev pub room : ℕ → Vector → ℕ
room zero x = 0
room (suc n) x = over (pos 1000000 -ℤ x (suc n)) + room n x

-- how many of the goods 1 to n are in a set
abbrev pub count : ℕ → Choices → ℕ
count zero s = 0
count (suc n) s = cond (s (suc n)) 1 0 + count n s

-- a good that rises takes one unit of the room
pub room-raised : (n : ℕ) (x : Vector) (s : Choices) → ((k : ℕ) → k < n → s (suc k) ≡ true → x (suc k) <ℤ pos 1000000) → room n (plus x s) + count n s ≡ room n x
room-raised zero x s h = refl
room-raised (suc n) x s h =
    let before = room-raised n x s (λ k l. h k (omega arith)) in
    let here = entry (x (suc n)) (s (suc n)) (h n (omega arith)) in
    omega arith
  where
    entry : (a : ℤ) (b : Bool) → (b ≡ true → a <ℤ pos 1000000) → over (pos 1000000 -ℤ (a +ℤ bit b)) + cond b 1 0 ≡ over (pos 1000000 -ℤ a)
    entry a true h = let below = h refl in let u = over_is (pos 1000000 -ℤ (a +ℤ pos 1)) in let v = over_is (pos 1000000 -ℤ a) in omega (arith, ints, clamps)
    entry a false h = let u = over_is (pos 1000000 -ℤ (a +ℤ pos 0)) in let v = over_is (pos 1000000 -ℤ a) in omega (arith, ints, clamps)

-- where there are none, no good is in the set
pub count_none : (n : ℕ) (s : Choices) → count n s ≡ 0 → (k : ℕ) → k < n → s (suc k) ≡ false
count_none zero s e k h = absurd (omega arith)
count_none (suc n) s e k h = at (s (suc n)) refl (eq-or-lt_of_le (omega arith)) (omega arith) (λ q l. count_none n s q k l)
  where
    at : (b : Bool) → s (suc n) ≡ b → (k ≡ n) ⊎ (k < n) → cond b 1 0 + count n s ≡ 0 → (count n s ≡ 0 → k < n → s (suc k) ≡ false) → s (suc k) ≡ false
    at true e l q rest = absurd (omega arith)
    at false e (inl l) q rest = ap (λ (j : ℕ). s (suc j)) l ∙ e
    at false e (inr l) q rest = rest (omega arith) l

-- a set of goods that isn't empty has a good
pub some_good : (n set : ℕ) → IsSetOfGoods n set → (set ≡ 0 → ⊥) → 0 < count n (members set)
some_good n set goods some = at (count n (members set)) refl
  where
    none : count n (members set) ≡ 0 → (k : ℕ) → k < n + 1 → members set k ≡ members 0 k
    none e zero h = goods.1
    none e (suc k) h = count_none n (members set) e k (omega arith) ∙ sym (ap (λ (v : ℕ). eqb v 1) (bit_at-zero (suc k)))

    at : (m : ℕ) → count n (members set) ≡ m → 0 < m
    at zero e = absurd (some (same_members (n + 1) set 0 goods.0 (pow_pos (n + 1)) (none e)))
    at (suc m) e = omega arith

-- the higher the prices, the less room
pub room-less : (n : ℕ) (x y : Vector) → ((k : ℕ) → k < n → x (suc k) ≤ℤ y (suc k)) → room n y ≤ room n x
room-less zero x y h = omega arith
room-less (suc n) x y h =
    let rest = room-less n x y (λ k l. h k (omega arith)) in
    let one = h n (omega arith) in
    let a = over_is (pos 1000000 -ℤ x (suc n)) in
    let b = over_is (pos 1000000 -ℤ y (suc n)) in
    omega (arith, ints, clamps)

-- the units that the goods 1 to n may fall together down to a floor
abbrev pub depth : ℕ → Vector → Vector → ℕ
depth zero x floor = 0
depth (suc n) x floor = over (x (suc n) -ℤ floor (suc n)) + depth n x floor

-- a good that falls takes one unit of the depth
pub depth-lowered : (n : ℕ) (x floor : Vector) (s : Choices) → ((k : ℕ) → k < n → s (suc k) ≡ true → floor (suc k) <ℤ x (suc k)) → depth n (minus x s) floor + count n s ≡ depth n x floor
depth-lowered zero x floor s h = refl
depth-lowered (suc n) x floor s h =
    let before = depth-lowered n x floor s (λ k l. h k (omega arith)) in
    let here = entry (x (suc n)) (floor (suc n)) (s (suc n)) (h n (omega arith)) in
    omega arith
  where
    entry : (a f : ℤ) (b : Bool) → (b ≡ true → f <ℤ a) → over ((a -ℤ bit b) -ℤ f) + cond b 1 0 ≡ over (a -ℤ f)
    entry a f true h = let below = h refl in let u = over_is ((a -ℤ pos 1) -ℤ f) in let v = over_is (a -ℤ f) in omega (arith, ints, clamps)
    entry a f false h = let u = over_is ((a -ℤ pos 0) -ℤ f) in let v = over_is (a -ℤ f) in omega (arith, ints, clamps)

-- not every choice is outside a set that isn't empty
pub not_empty : (n set : ℕ) → IsSetOfGoods n set → (set ≡ 0 → ⊥) → ((k : ℕ) → k ≤ n → members set k ≡ false) → ⊥
not_empty n set goods some none = some (same_members (n + 1) set 0 goods.0 (pow_pos (n + 1)) (λ k h. none k (omega arith) ∙ sym (ap (λ (v : ℕ). eqb v 1) (bit_at-zero k))))

-- and the empty set has none
pub nothing_in : (set : ℕ) → set ≡ 0 → (k : ℕ) → members set k ≡ false
nothing_in set e k = ap (λ (v : ℕ). members v k) e ∙ ap (λ (v : ℕ). eqb v 1) (bit_at-zero k)
