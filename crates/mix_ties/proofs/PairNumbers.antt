-- The pairs for a good by number: `own` is the number of the sets of the choices before the good, and every set of the choices other than
-- the good gives one upper set, in rising number, and with each lower set that agrees with it a pair.
use Rattle.std.proofs.Common.{◌≡◌, ℕ, zero, suc, ◌+◌, ◌-◌, ◌*◌, ◌/◌, ◌%◌, ◌^◌, ◌<◌, ◌≤◌, eqb, sym, ap, ◌∙◌, subst, arith, pow-suc}
use Rattle.std.proofs.Math.Nat.{mul-le-mul}
use Rattle.std.proofs.lemmas.Bool.{eqb-true, eqb-false}
use Rattle.std.proofs.lemmas.Bool.Decides.{nat_tests}
use Rattle.std.proofs.lemmas.Nat.{div-add-mod', div_below, le-div, mod-mul-add, mod_below, pow-add, pow_pos, shr-shr, shr_below}
use Rattle.std.proofs.lemmas.Nat.Bits.{bit_at_cat_high, bit_at_cat_low, bit_at-suc}
use Rattle.std.specs.Int.{bit_at}
use Rattle.mix_num.specs.Vectors.{members}
use Rattle.mix_num.specs.Pairs.{IsPair}
use Rattle.mix_num.proofs.Masks.{same_members}

-- the upper set of a set of the other choices, and the m-th lower set that agrees with it
abbrev pub upper_at : ℕ → ℕ → ℕ
upper_at own others = 2 * (others - others % own) + own + others % own

abbrev pub lower_at : ℕ → ℕ → ℕ → ℕ
lower_at own others m = 2 * (others - others % own) + others % own % 2 + 2 * m

-- what a set has of the choices after the good, and of those before it
upper_parts : (own q b : ℕ) → b < own → upper_at own (q * own + b) ≡ (2 * q + 1) * own + b
upper_parts own q b h = let e = mod-mul-add q own b h in omega arith

lower_parts : (own q b m : ℕ) → b < own → lower_at own (q * own + b) m ≡ 2 * q * own + (b % 2 + 2 * m)
lower_parts own q b m h = let e = mod-mul-add q own b h in let f = ap (λ (k : ℕ). k % 2) e in omega arith

-- ---- the bits of the two parts
bit_test : (a b : ℕ) → a ≡ b → eqb a 1 ≡ eqb b 1
bit_test a b e = ap (λ (z : ℕ). eqb z 1) e

bit_known : (a b : ℕ) → a < 2 → b < 2 → eqb a 1 ≡ eqb b 1 → a ≡ b
bit_known a b h k e = grind (arith, nat_tests)

pair_of : (n j q b r : ℕ) → j < n → b < 2 ^ suc j → r < 2 ^ suc j → r % 2 ≡ b % 2 → (2 * q + 1) * 2 ^ suc j + b < 2 ^ suc n
    → IsPair n j ((2 * q + 1) * 2 ^ suc j + b) (2 * q * 2 ^ suc j + r)
pair_of n j q b r h k l e u = record {
  upper_set = u;
  lower_set = omega arith;
  inside = bit_test _ 1 (bit_at_cat_high (2 * q + 1) (suc j) b (suc j) k (omega arith) ∙ ap (bit_at (2 * q + 1)) (let z : suc j - suc j ≡ 0 = omega arith in z) ∙ (let z : (2 * q + 1) / 1 % 2 ≡ 1 = omega arith in z));
  outside = bit_test _ 0 (bit_at_cat_high (2 * q) (suc j) r (suc j) l (omega arith) ∙ ap (bit_at (2 * q)) (let z : suc j - suc j ≡ 0 = omega arith in z) ∙ (let z : 2 * q / 1 % 2 ≡ 0 = omega arith in z));
  null = bit_test _ _ (bit_at_cat_low (2 * q + 1) (suc j) b 0 (omega arith) ∙ (let z : b / 1 % 2 ≡ r / 1 % 2 = omega arith in z) ∙ sym (bit_at_cat_low (2 * q) (suc j) r 0 (omega arith)));
  later = λ i m g. bit_test _ _
      (bit_at_cat_high (2 * q + 1) (suc j) b i k (omega arith) ∙ same (i - suc j) (omega arith) ∙ sym (bit_at_cat_high (2 * q) (suc j) r i l (omega arith)));
}
  where
    same : (t : ℕ) → 0 < t → bit_at (2 * q + 1) t ≡ bit_at (2 * q) t
    same zero p = absurd (omega arith)
    same (suc t) p = bit_at-suc (2 * q + 1) t ∙ ap (λ (w : ℕ). bit_at w t) (let z : (2 * q + 1) / 2 ≡ 2 * q / 2 = omega arith in z) ∙ sym (bit_at-suc (2 * q) t)

-- ---- an upper set below the number of all sets
halves : (n j : ℕ) → j < n → 2 ^ n ≡ 2 ^ (n - suc j) * 2 ^ suc j
halves n j h = ap (λ (k : ℕ). 2 ^ k) (let e : n ≡ n - suc j + suc j = omega arith in e) ∙ pow-add 2 (n - suc j) (suc j)

pub upper_below : (n j own others : ℕ) → own ≡ 2 ^ suc j → j < n → others < 2 ^ n → upper_at own others < 2 ^ suc n
upper_below n j own others e h l =
    let some : 0 < own = omega (arith, e, pow_pos (suc j)) in
    let q : ℕ = others / own in
    let b : ℕ = others % own in
    let split : q * own + b ≡ others = div-add-mod' others own in
    let low : b < own = mod_below others own some in
    let all : 2 ^ n ≡ 2 ^ (n - suc j) * own = halves n j h ∙ ap (λ (k : ℕ). 2 ^ (n - suc j) * k) (sym e) in
    let less : q < 2 ^ (n - suc j) = div_below others own (2 ^ (n - suc j)) some (omega arith) in
    let grows : suc q * own ≤ 2 ^ (n - suc j) * own = mul-le-mul (let z : suc q ≤ 2 ^ (n - suc j) = omega arith in z) (let z : own ≤ own = omega arith in z) in
    let next : suc q * own ≡ own + q * own = following q own in
    let twice = pow-suc 2 n in
    omega arith
  where
    following : (q own : ℕ) → suc q * own ≡ own + q * own
    following q own = omega arith

-- the upper sets rise
pub upper_grows : (own i k : ℕ) → 0 < own → i < k → upper_at own i < upper_at own k
upper_grows own i k some h =
    let a = div-add-mod' i own in
    let b = div-add-mod' k own in
    let less : i / own ≤ k / own = le-div (i / own) k own some (omega arith) in
    let grows : i / own * own ≤ k / own * own = mul-le-mul less (let z : own ≤ own = omega arith in z) in
    omega arith

-- ---- each pair once
pub pair_at : (n j own others m : ℕ) → own ≡ 2 ^ suc j → j < n → others < 2 ^ n → m < own / 2 → IsPair n j (upper_at own others) (lower_at own others m)
pair_at n j own others m e h l k =
    let some : 0 < own = omega (arith, e, pow_pos (suc j)) in
    let q : ℕ = others / own in
    let b : ℕ = others % own in
    let split : q * own + b ≡ others = div-add-mod' others own in
    let low : b < own = mod_below others own some in
    let even : own ≡ 2 * 2 ^ j = omega (arith, e, pow-suc 2 j) in
    let u : upper_at own others ≡ (2 * q + 1) * own + b = ap (upper_at own) (sym split) ∙ upper_parts own q b low in
    let v : lower_at own others m ≡ 2 * q * own + (b % 2 + 2 * m) = ap (λ (i : ℕ). lower_at own i m) (sym split) ∙ lower_parts own q b m low in
    let below : (2 * q + 1) * own + b < 2 ^ suc n = subst (λ (i : ℕ). i < 2 ^ suc n) u (upper_below n j own others e h l) in
    let p : IsPair n j ((2 * q + 1) * 2 ^ suc j + b) (2 * q * 2 ^ suc j + (b % 2 + 2 * m)) =
    pair_of n j q b (b % 2 + 2 * m) h (omega arith) (omega arith) (omega arith) (subst (λ (i : ℕ). (2 * q + 1) * i + b < 2 ^ suc n) e below) in
    let p' : IsPair n j ((2 * q + 1) * own + b) (2 * q * own + (b % 2 + 2 * m)) = subst (λ (i : ℕ). IsPair n j ((2 * q + 1) * i + b) (2 * q * i + (b % 2 + 2 * m))) (sym e) p in
    subst (λ (i : ℕ). IsPair n j i (lower_at own others m)) (sym u) (subst (λ (i : ℕ). IsPair n j ((2 * q + 1) * own + b) i) (sym v) p')

-- the later goods of a pair, as a number
later_same : (n j c d : ℕ) → j < n → IsPair n j c d → c / 2 ^ suc j / 2 ≡ d / 2 ^ suc j / 2
later_same n j c d h p =
    let size : suc n ≡ n - suc j + suc (suc j) = omega arith in
    let small : (s : ℕ) → s < 2 ^ suc n → s / 2 ^ suc (suc j) < 2 ^ (n - suc j) = λ s l. shr_below s (n - suc j) (suc (suc j)) (subst (λ (i : ℕ). s < 2 ^ i) size l) in
    half c ∙ same_members (n - suc j) (c / 2 ^ suc (suc j)) (d / 2 ^ suc (suc j)) (small c p.upper_set) (small d p.lower_set)
    (λ k l. at c k ∙ p.later (suc (suc j) + k) (omega arith) (omega arith) ∙ sym (at d k))
    ∙ sym (half d)
  where
    half : (s : ℕ) → s / 2 ^ suc j / 2 ≡ s / 2 ^ suc (suc j)
    half s = shr-shr s (suc j) 1 ∙ ap (λ (i : ℕ). s / 2 ^ i) (let e : suc j + 1 ≡ suc (suc j) = omega arith in e)

    at : (s k : ℕ) → members (s / 2 ^ suc (suc j)) k ≡ members s (suc (suc j) + k)
    at s k = ap (λ (i : ℕ). eqb (i % 2) 1) (shr-shr s (suc (suc j)) k)

-- a pair is that of the upper set's other choices, and of one of the lower sets that agree with it
pub record Found (n own c d : ℕ) : Type 0 where
  pub others : ℕ
  pub place : ℕ
  pub others_set : others < 2 ^ n
  pub place_set : place < own / 2
  pub upper : c ≡ upper_at own others
  pub lower : d ≡ lower_at own others place

pub pair_from : (n j own c d : ℕ) → own ≡ 2 ^ suc j → j < n → IsPair n j c d → Found n own c d
pair_from n j own c d e h p =
    let some : 0 < own = omega (arith, e, pow_pos (suc j)) in
    let even : own ≡ 2 * 2 ^ j = omega (arith, e, pow-suc 2 j) in
    let odd : c / 2 ^ suc j % 2 ≡ 1 = eqb-true (c / 2 ^ suc j % 2) 1 p.inside in
    let clear = eqb-false (d / 2 ^ suc j % 2) 1 p.outside in
    let same = later_same n j c d h p in
    let null : c % 2 ≡ d % 2 = null_bits c d p.null in
    let q : ℕ = c / 2 ^ suc j / 2 in
    let up : c / own ≡ 2 * q + 1 = ap (λ (i : ℕ). c / i) e ∙ (let z : c / 2 ^ suc j ≡ 2 * q + 1 = omega arith in z) in
    let down : d / own ≡ 2 * q = ap (λ (i : ℕ). d / i) e ∙ (let z : d / 2 ^ suc j ≡ 2 * q = omega arith in z) in
    let b : ℕ = c % own in
    let r : ℕ = d % own in
    let low : b < own = mod_below c own some in
    let low' : r < own = mod_below d own some in
    let c_is : c ≡ (2 * q + 1) * own + b = sym (div-add-mod' c own) ∙ ap (λ (i : ℕ). i * own + b) up in
    let d_is : d ≡ 2 * q * own + r = sym (div-add-mod' d own) ∙ ap (λ (i : ℕ). i * own + r) down in
    let parity : b % 2 ≡ r % 2 = parities c d own (2 * q + 1) (2 * q) b r (2 ^ j) even c_is d_is null in
    let all = pow-suc 2 n in
    record {
      others = q * own + b;
      place = r / 2;
      others_set = let u = p.upper_set in omega arith;
      place_set = omega arith;
      upper = c_is ∙ sym (upper_parts own q b low);
      lower = d_is ∙ (let z : 2 * q * own + r ≡ 2 * q * own + (b % 2 + 2 * (r / 2)) = omega arith in z) ∙ sym (lower_parts own q b (r / 2) low);
    }
  where
    null_bits : (c d : ℕ) → members c 0 ≡ members d 0 → c % 2 ≡ d % 2
    null_bits c d m = let e = bit_known (c / 1 % 2) (d / 1 % 2) (omega arith) (omega arith) m in omega arith

    swap : (s half : ℕ) → s * (2 * half) ≡ 2 * (s * half)
    swap s half = omega arith

    parities : (c d own s t b r half : ℕ) → own ≡ 2 * half → c ≡ s * own + b → d ≡ t * own + r → c % 2 ≡ d % 2 → b % 2 ≡ r % 2
    parities c d own s t b r half e f g h =
        let x : s * own ≡ 2 * (s * half) = ap (λ (i : ℕ). s * i) e ∙ swap s half in
        let y : t * own ≡ 2 * (t * half) = ap (λ (i : ℕ). t * i) e ∙ swap t half in
        omega arith
