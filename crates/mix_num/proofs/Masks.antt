-- Sets of choices as numbers: what the members of a number are, and that every set of the choices below m is that of one number below 2 ^ m.
use Rattle.std.proofs.Common.{◌≡◌, ℕ, zero, suc, ◌+◌, ◌-◌, ◌*◌, ◌^◌, ◌≤◌, ◌<◌, ◌⊎◌, inl, inr, Bool, true, false, cond, eqb, not, refl, arith, sym, ap, ◌∙◌, eq-or-lt_of_le, pow-suc, min, max, bit_and, bit_or, w16}
use Rattle.std.proofs.lemmas.Bool.Decides.{nat_tests}
use Rattle.std.proofs.lemmas.Nat.Bits.{bit_at_above, bit_at_cat_low, bit_at_cat_high, bit_at_mask_inside, bit_at_ones, bit_at_and, bit_at_not, bit_at_or, bit_at-lt, same_from_bits_below}
use Rattle.std.specs.Int.{bit_at, bit_not}
use Rattle.mix_num.specs.Vectors.{Choices, members, both, either}

-- a bit is known by whether it is 1
bit_known : (a b : ℕ) → a < 2 → b < 2 → eqb a 1 ≡ eqb b 1 → a ≡ b
bit_known a b h k e = grind (arith, nat_tests)

-- numbers below 2 ^ m with the same members below m are equal
pub same_members : (m a b : ℕ) → a < 2 ^ m → b < 2 ^ m → ((k : ℕ) → k < m → members a k ≡ members b k) → a ≡ b
same_members m a b h k e = same_from_bits_below m a b h k (λ i l. bit_known _ _ (bit_at-lt a i) (bit_at-lt b i) (e i l))

-- a number below 2 ^ m has no member from m on
pub members_above : (a m k : ℕ) → a < 2 ^ m → m ≤ k → members a k ≡ false
members_above a m k h l = ap (λ z. eqb z 1) (bit_at_above a m k h l)

-- the goods 1 to n
pub goods_members : (n k : ℕ) → 1 ≤ k → k ≤ n → members (2 ^ (n + 1) - 2) k ≡ true
goods_members n k h l = ap (λ z. eqb z 1) (bit_at_mask_inside 1 (n + 1) k h (omega arith))

-- the choices 0 to n
pub whole_members : (n k : ℕ) → k ≤ n → members (2 ^ (n + 1) - 1) k ≡ true
whole_members n k h = ap (λ z. eqb z 1) (bit_at_ones (n + 1) k (omega arith))

-- the members of both sets, and of either
both_bits : (a b : ℕ) → a < 2 → b < 2 → eqb (min a b) 1 ≡ cond (eqb a 1) (eqb b 1) false
both_bits a b h k = grind (arith, nat_tests)

either_bits : (a b : ℕ) → a < 2 → b < 2 → eqb (max a b) 1 ≡ cond (eqb a 1) true (eqb b 1)
either_bits a b h k = grind (arith, nat_tests)

pub and_members : (a b k : ℕ) → members (bit_and a b) k ≡ both (members a) (members b) k
and_members a b k = ap (λ z. eqb z 1) (bit_at_and a b k) ∙ both_bits _ _ (bit_at-lt a k) (bit_at-lt b k)

pub or_members : (a b k : ℕ) → members (bit_or a b) k ≡ either (members a) (members b) k
or_members a b k = ap (λ z. eqb z 1) (bit_at_or a b k) ∙ either_bits _ _ (bit_at-lt a k) (bit_at-lt b k)

-- the choices 0 to n outside a set, by their bits
pub outside_members : (n s : ℕ) → n ≤ 8 → s < 2 ^ 16 → (k : ℕ) → k < suc n → members (bit_and (bit_not w16 s) (2 ^ (n + 1) - 1)) k ≡ not (members s k)
outside_members n s few small k h =
    and_members (bit_not w16 s) (2 ^ (n + 1) - 1) k
    ∙ ap (λ (b : Bool). cond (members (bit_not w16 s) k) b false) (whole_members n k (omega arith))
    ∙ flat (members (bit_not w16 s) k)
    ∙ ap (λ (v : ℕ). eqb v 1) (bit_at_not w16 s k small (omega arith))
    ∙ turned (bit_at s k) (bit_at-lt s k)
  where
    flat : (b : Bool) → cond b true false ≡ b
    flat true = refl
    flat false = refl

    turned : (v : ℕ) → v < 2 → eqb (1 - v) 1 ≡ not (eqb v 1)
    turned zero h = refl
    turned (suc zero) h = refl
    turned (suc (suc v)) h = absurd (omega arith)

-- the number of the set of those choices below m that pass a test
pub mask_of : ℕ → Choices → ℕ
mask_of zero s = 0
mask_of (suc m) s = cond (s m) 1 0 * 2 ^ m + mask_of m s

pub mask_below : (m : ℕ) (s : Choices) → mask_of m s < 2 ^ m
unfolding mask_of
mask_below zero s = omega arith
mask_below (suc m) s = at (s m) (mask_below m s)
  where
    at : (b : Bool) → mask_of m s < 2 ^ m → cond b 1 0 * 2 ^ m + mask_of m s < 2 ^ suc m
    at true h = let e = pow-suc 2 m in omega arith
    at false h = let e = pow-suc 2 m in omega arith

-- the bit of m itself, where it is set and where it isn't
top_set : (m k r : ℕ) → k ≡ m → r < 2 ^ m → members (1 * 2 ^ m + r) k ≡ true
top_set m k r e h =
    let u : k - m ≡ 0 = omega arith in
    let one : bit_at 1 0 ≡ 1 = refl in
    ap (λ z. eqb z 1) (bit_at_cat_high 1 m r k h (omega arith) ∙ ap (bit_at 1) u ∙ one)

top_clear : (m k r : ℕ) → k ≡ m → r < 2 ^ m → members (0 * 2 ^ m + r) k ≡ false
top_clear m k r e h =
    let u : 0 * 2 ^ m + r ≡ r = omega arith in
    ap (λ z. eqb z 1) (ap (λ z. bit_at z k) u ∙ bit_at_above r m k h (omega arith))

pub mask_members : (m : ℕ) (s : Choices) (k : ℕ) → k < m → members (mask_of m s) k ≡ s k
unfolding mask_of
mask_members zero s k h = absurd (omega arith)
mask_members (suc m) s k h = at (s m) refl (eq-or-lt_of_le (omega arith)) (λ l. mask_members m s k l)
  where
    at : (b : Bool) → s m ≡ b → (k ≡ m) ⊎ (k < m) → (k < m → members (mask_of m s) k ≡ s k) → members (cond b 1 0 * 2 ^ m + mask_of m s) k ≡ s k
    at true e (inl q) f = top_set m k (mask_of m s) q (mask_below m s) ∙ sym (ap s q ∙ e)
    at false e (inl q) f = top_clear m k (mask_of m s) q (mask_below m s) ∙ sym (ap s q ∙ e)
    at b e (inr l) f = ap (λ z. eqb z 1) (bit_at_cat_low (cond b 1 0) m (mask_of m s) k l) ∙ f l
