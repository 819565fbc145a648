-- Sets of choices as numbers: a bit set, and two sets compared by their bits.
use Rattle.std.proofs.Common.{arith, ap, ap₂, sym, ◌∙◌, ◌≡◌, ◌≢◌, ◌-◌, ◌*◌, ◌^◌, ◌%◌, ◌≤◌, ◌<◌, eqb, ltb, not, cond, true, false, refl, Bool, ℕ, bit_and, bit_or, min, max, w16}
use Rattle.std.proofs.lemmas.Bool.{eqb-true, eqb-false, eq-eqb, ltb-true, ltb-false}
use Rattle.std.proofs.lemmas.Bool.Decides.{nat_tests}
use Rattle.std.proofs.Math.Pow.{pow-lt}
use Rattle.std.proofs.lemmas.Nat.{one_shl, or_lt}
use Rattle.std.proofs.lemmas.Nat.Bits.{bit_at_set_same, bit_at_set_other, bit_at_and, bit_at_or, bit_at_not, bit_at-lt, bit_at_above}
use Rattle.std.specs.Int.{bit_at}
use Rattle.mix_num.specs.Vectors.{members}
use Rattle.mix_bids.proofs.Cases.{by_test}

with_bit : (n c k : ℕ) (b : Bool) → c ≤ 8 → eqb k c ≡ b → members (bit_or n (1 * 2 ^ c % 65536)) k ≡ cond b true (members n k)
with_bit n c k true l e =
    let q : k ≡ c = grind (arith, nat_tests) in
    ap (members (bit_or n (1 * 2 ^ c % 65536))) q ∙ ap (λ z. eqb z 1) (bit_at_set_same w16 n c (omega arith))
with_bit n c k false l e =
    let q : k ≢ c = grind (arith, nat_tests) in
    ap (λ z. eqb z 1) (bit_at_set_other w16 n c (omega arith) k q)

-- one bit set is one choice more
pub set_bit : (n c : ℕ) → c ≤ 8 → (k : ℕ) → members (bit_or n (1 * 2 ^ c % 65536)) k ≡ cond (eqb k c) true (members n k)
set_bit n c l k = with_bit n c k (eqb k c) l refl

-- a set below the choice m stays below it
pub set_bit-lt : (n c m : ℕ) → c ≤ 8 → c < m → n < 2 ^ m → bit_or n (1 * 2 ^ c % 65536) < 2 ^ m
set_bit-lt n c m l q h = or_lt m n (1 * 2 ^ c % 65536) h (omega (arith, one_shl c 16 (omega arith), pow-lt {i = c} {j = m} q))

-- the members of either number
pub members_or : (a b k : ℕ) → members (bit_or a b) k ≡ cond (members a k) true (members b k)
members_or a b k = ap (λ z. eqb z 1) (bit_at_or a b k) ∙ at (bit_at a k) (bit_at b k) (bit_at-lt a k) (bit_at-lt b k)
  where
    at : (x y : ℕ) → x < 2 → y < 2 → eqb (max x y) 1 ≡ cond (eqb x 1) true (eqb y 1)
    at x y l m = by_test (eqb x 1)
        (λ h. let e = eqb-true x 1 h in eq-eqb (max x y) 1 (omega arith) ∙ ap (λ z. cond z true (eqb y 1)) (sym h))
        (λ h. let e = eqb-false x 1 h in ap (λ z. eqb z 1) (let q : max x y ≡ y = omega arith in q) ∙ ap (λ z. cond z true (eqb y 1)) (sym h))

-- the members of one number that aren't members of the other
pub members_beyond : (a b k : ℕ) → a < 2 ^ 16 → b < 2 ^ 16 → members (bit_and a (65535 - b)) k ≡ cond (members a k) (not (members b k)) false
members_beyond a b k f g = ap (λ z. eqb z 1) (bit_at_and a (65535 - b) k) ∙ by_test (ltb k 16)
    (λ h. ap (λ z. eqb (min (bit_at a k) z) 1) (bit_at_not w16 b k g (ltb-true k 16 h)) ∙ at (bit_at a k) (bit_at b k) (bit_at-lt a k) (bit_at-lt b k))
    (λ h. let z = bit_at_above a 16 k f (ltb-false k 16 h) in
    ap (λ x. eqb (min x (bit_at (65535 - b) k)) 1) z ∙ ap (λ x. eqb x 1) (let q : min 0 (bit_at (65535 - b) k) ≡ 0 = omega arith in q) ∙ sym (ap (λ x. cond (eqb x 1) (not (members b k)) false) z))
  where
    at : (x y : ℕ) → x < 2 → y < 2 → eqb (min x (1 - y)) 1 ≡ cond (eqb x 1) (not (eqb y 1)) false
    at x y l m = by_test (eqb x 1)
        (λ h. let e = eqb-true x 1 h in by_test (eqb y 1)
        (λ i. let d = eqb-true y 1 i in ap (λ z. eqb z 1) (let q : min x (1 - y) ≡ 0 = omega arith in q) ∙ ap₂ (λ s t. cond s (not t) false) (sym h) (sym i))
        (λ i. let d = eqb-false y 1 i in ap (λ z. eqb z 1) (let q : min x (1 - y) ≡ 1 = omega arith in q) ∙ ap₂ (λ s t. cond s (not t) false) (sym h) (sym i)))
        (λ h. let e = eqb-false x 1 h in ap (λ z. eqb z 1) (let q : min x (1 - y) ≡ 0 = omega arith in q) ∙ ap (λ s. cond s (not (eqb y 1)) false) (sym h))
