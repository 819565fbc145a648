-- Numbers compared by their bits, and sets by their numbers: the same set, a set in another, a set that meets another.
use Rattle.std.proofs.Common.{arith, ap, ◌∙◌, sym, ◌≡◌, ◌^◌, ◌<◌, ◌≤◌, eqb, ltb, not, true, false, ℕ, ℤ, bit_and, int_eq, of_z, to_z, w16, w64}
use Rattle.std.proofs.lemmas.Bool.{false≢true, eqb-true, eqb-false, eq-eqb, ltb-true, ltb-false}
use Rattle.std.proofs.lemmas.Nat.Bits.{bit_at-zero, bit_at_and, bit_at_not, bit_at-lt, bit_at_above, same_from_bits}
use Rattle.std.specs.Int.{bit_at, bit_not}
use Rattle.mix_num.specs.Vectors.{members, outside, Choices}
use Rattle.mix_num.proofs.Equalities.{int_eq_is}
use Rattle.mix_bids.specs.Offers.{meets, same_set, within}
use Rattle.mix_bids.proofs.Cases.{by_test, not_true, same_bool}
use Rattle.mix_bids.proofs.Sets.{within-intro, within-true, same_set-intro, same_set-true}

-- two numbers are the same exactly where their bits are
pub same_number : (a b : ℤ) → to_z w64 (of_z w64 a) ≡ a → to_z w64 (of_z w64 b) ≡ b → eqb (of_z w64 a) (of_z w64 b) ≡ int_eq (to_z w64 (of_z w64 a)) b
same_number a b e f = same_bool _ _
    (λ h. (int_eq_is (to_z w64 (of_z w64 a)) b).1 (ap (to_z w64) (eqb-true (of_z w64 a) (of_z w64 b) h) ∙ f))
    (λ h. eq-eqb (of_z w64 a) (of_z w64 b) (ap (of_z w64) (sym e ∙ (int_eq_is (to_z w64 (of_z w64 a)) b).0 h)))

-- a member is a bit
member_bit : (n k : ℕ) → members n k ≡ true → bit_at n k ≡ 1
member_bit n k h = eqb-true (bit_at n k) 1 h

other_bit : (n k : ℕ) → members n k ≡ false → bit_at n k ≡ 0
other_bit n k h = let f = eqb-false (bit_at n k) 1 h in omega (arith, bit_at-lt n k)

bit_member : (n k : ℕ) → bit_at n k ≡ 1 → members n k ≡ true
bit_member n k h = eq-eqb (bit_at n k) 1 h

-- a set below the choice m has members below it alone
pub member_below : (n m k : ℕ) → n < 2 ^ m → members n k ≡ true → k < m
member_below n m k f h = by_test (ltb k m) (λ l. ltb-true k m l) (λ l. let a = bit_at_above n m k f (ltb-false k m l) in let b = member_bit n k h in absurd (omega arith))

-- the same members are the same bits
same_bits : (a b k : ℕ) → members a k ≡ members b k → bit_at a k ≡ bit_at b k
same_bits a b k e = by_test (members b k)
    (λ h. member_bit a k (e ∙ h) ∙ sym (member_bit b k h))
    (λ h. other_bit a k (e ∙ h) ∙ sym (other_bit b k h))

-- two numbers are the same exactly where their sets are
pub same_is : (m a b : ℕ) (s t : Choices) → a < 2 ^ m → ((k : ℕ) → members a k ≡ s k) → ((k : ℕ) → members b k ≡ t k) → ((k : ℕ) → m ≤ k → t k ≡ false) → eqb a b ≡ same_set m s t
same_is m a b s t f p q r = same_bool _ _
    (λ h. same_set-intro m s t (λ k l. sym (p k) ∙ ap (λ z. members z k) (eqb-true a b h) ∙ q k))
    (λ h. eq-eqb a b (same_from_bits a b (λ k. same_bits a b k (by_test (ltb k m)
    (λ l. p k ∙ same_set-true m s t h k (ltb-true k m l) ∙ sym (q k))
    (λ l. not_true _ (λ g. let d = member_below a m k f g in let e = ltb-false k m l in absurd (omega arith)) ∙ sym (r k (ltb-false k m l)) ∙ sym (q k))))))

-- no bit of b is outside s exactly where b lies in s
pub lies_is : (m b s : ℕ) → b < 2 ^ 16 → s < 2 ^ 16 → b < 2 ^ m → eqb (bit_and b (bit_not w16 s)) 0 ≡ within m (members b) (members s)
lies_is m b s f g h = same_bool _ _
    (λ t. within-intro m (members b) (members s) (λ k l e.
    let z = ap (λ n. bit_at n k) (eqb-true _ 0 t) ∙ bit_at-zero k in
    let a = bit_at_and b (bit_not w16 s) k in
    let c = bit_at_not w16 s k g (member_below b 16 k f e) in
    let d = member_bit b k e in
    bit_member s k (omega (arith, bit_at-lt s k))))
    (λ t. eq-eqb _ 0 (same_from_bits _ 0 (λ k.
    let a = bit_at_and b (bit_not w16 s) k in
    let z = bit_at-zero k in
    by_test (members b k)
    (λ e.
    let c = bit_at_not w16 s k g (member_below b 16 k f e) in
    let d = member_bit s k (within-true m (members b) (members s) t k (member_below b m k h e) e) in
    omega arith)
    (λ e. let d = other_bit b k e in omega arith))))

-- no bit is in both exactly where b lies outside s
apart_is : (m b s : ℕ) → b < 2 ^ m → eqb (bit_and b s) 0 ≡ within m (members b) (outside (members s))
apart_is m b s h = same_bool _ _
    (λ t. within-intro m (members b) (outside (members s)) (λ k l e.
    let z = ap (λ n. bit_at n k) (eqb-true _ 0 t) ∙ bit_at-zero k in
    let a = bit_at_and b s k in
    let d = member_bit b k e in
    ap not (not_true (members s k) (λ q. let c = member_bit s k q in absurd (omega arith)))))
    (λ t. eq-eqb _ 0 (same_from_bits _ 0 (λ k.
    let a = bit_at_and b s k in
    let z = bit_at-zero k in
    by_test (members b k)
    (λ e.
    let d = other_bit s k (not_true (members s k) (λ q. false≢true (ap not (sym q) ∙ within-true m (members b) (outside (members s)) t k (member_below b m k h e) e))) in
    omega arith)
    (λ e. let d = other_bit b k e in omega arith))))

pub meets_is : (m b s : ℕ) → b < 2 ^ m → not (eqb (bit_and b s) 0) ≡ meets m (members b) (members s)
meets_is m b s h = ap not (apart_is m b s h)
