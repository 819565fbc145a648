-- Products of whole numbers: over sums and differences, and by a factor that isn't negative.
use Rattle.std.proofs.Common.{◌≡◌, ◌∙◌, ℕ, zero, suc, ◌+◌, ◌*◌, ◌≤◌, ℤ, pos, negsuc, ◌+ℤ◌, ◌-ℤ◌, ◌*ℤ◌, ◌≤ℤ◌, ◌<ℤ◌, arith, ap, sym}
use Rattle.std.proofs.lemmas.Int.{ints, by_lt_z}
use Rattle.std.proofs.Math.IntN.{*ℤ_comm, pos-*ℤ-pos, zero-*ℤ}
use borrow.Author.Differences.{up, down, sum_is_lem}

pub *ℤ-sum : (a b c : ℤ) → a *ℤ (b +ℤ c) ≡ (a *ℤ b) +ℤ (a *ℤ c)
*ℤ-sum a b c = omega (arith, ints, ap (λ z. up a * z) (sum_is_lem b c), ap (λ z. down a * z) (sum_is_lem b c))

pub *ℤ-difference : (a b c : ℤ) → a *ℤ (b -ℤ c) ≡ (a *ℤ b) -ℤ (a *ℤ c)
*ℤ-difference a b c =
    let e : up (b -ℤ c) + down b + up c ≡ down (b -ℤ c) + up b + down c = omega (arith, ints) in
    omega (arith, ints, ap (λ z. up a * z) e, ap (λ z. down a * z) e)

pub sum-*ℤ : (a b c : ℤ) → (a +ℤ b) *ℤ c ≡ (a *ℤ c) +ℤ (b *ℤ c)
sum-*ℤ a b c = omega (arith, ints, *ℤ-sum c a b, *ℤ_comm c (a +ℤ b), *ℤ_comm c a, *ℤ_comm c b)

pub difference-*ℤ : (a b c : ℤ) → (a -ℤ b) *ℤ c ≡ (a *ℤ c) -ℤ (b *ℤ c)
difference-*ℤ a b c = omega (arith, ints, *ℤ-difference c a b, *ℤ_comm c (a -ℤ b), *ℤ_comm c a, *ℤ_comm c b)

-- a product of numbers that aren't negative isn't negative
pub product_nonnegative : (a b : ℤ) → pos 0 ≤ℤ a → pos 0 ≤ℤ b → pos 0 ≤ℤ (a *ℤ b)
product_nonnegative (pos m) (pos n) h k = let e = pos-*ℤ-pos m n in omega (arith, ints, e)
product_nonnegative (pos m) (negsuc n) h k = absurd (omega (arith, ints))
product_nonnegative (negsuc m) b h k = absurd (omega (arith, ints))

-- a factor that isn't negative keeps the order
pub product_grows : (a b c : ℤ) → pos 0 ≤ℤ a → b ≤ℤ c → (a *ℤ b) ≤ℤ (a *ℤ c)
product_grows a b c h k =
    let p = product_nonnegative a (c -ℤ b) h (omega (arith, ints)) in
    omega (arith, ints, *ℤ-difference a c b)

pub product_grows_left : (a b c : ℤ) → pos 0 ≤ℤ c → a ≤ℤ b → (a *ℤ c) ≤ℤ (b *ℤ c)
product_grows_left a b c h k =
    let p = product_grows c a b h k in
    omega (arith, ints, *ℤ_comm c a, *ℤ_comm c b)

-- a natural factor moves out of a product
pub *ℤ-multiple : (a : ℤ) (d : ℕ) (b : ℤ) → a *ℤ (pos d *ℤ b) ≡ pos d *ℤ (a *ℤ b)
*ℤ-multiple a zero b = omega (arith, ints, zero-*ℤ b, zero-*ℤ (a *ℤ b), ap (λ z. a *ℤ z) (zero-*ℤ b))
*ℤ-multiple a (suc d) b =
    let one : pos (suc d) ≡ pos d +ℤ pos 1 = omega (arith, ints) in
    let left = ap (λ z. a *ℤ (z *ℤ b)) one ∙ ap (λ z. a *ℤ z) (sum-*ℤ (pos d) (pos 1) b) ∙ *ℤ-sum a (pos d *ℤ b) (pos 1 *ℤ b) in
    let right = ap (λ z. z *ℤ (a *ℤ b)) one ∙ sum-*ℤ (pos d) (pos 1) (a *ℤ b) in
    let once : pos 1 *ℤ b ≡ b = omega (arith, ints) in
    let last = ap (λ z. a *ℤ z) once in
    omega (arith, ints, *ℤ-multiple a d b)

-- a multiple of a multiple
pub multiple-multiple : (e d : ℕ) (a : ℤ) → pos (e * d) *ℤ a ≡ pos e *ℤ (pos d *ℤ a)
multiple-multiple e d a = ap (λ z. z *ℤ a) (sym (pos-*ℤ-pos e d)) ∙ *ℤ_comm (pos e *ℤ pos d) a ∙ *ℤ-multiple a e (pos d) ∙ ap (λ z. pos e *ℤ z) (*ℤ_comm a (pos d))

-- a factor of at least 1 may be left out of an order, and of an equation
pub multiple_below : (d : ℕ) (a b : ℤ) → 1 ≤ d → (pos d *ℤ a) <ℤ (pos d *ℤ b) → a <ℤ b
multiple_below d a b some h = by_lt_z a b (λ q. q) (λ q. let e = product_grows (pos d) b a (omega (arith, ints)) q in absurd (omega (arith, ints)))

pub multiple_same : (d : ℕ) (a b : ℤ) → 1 ≤ d → pos d *ℤ a ≡ pos d *ℤ b → a ≡ b
multiple_same d a b some h =
    by_lt_z a b (λ q. absurd (apart a b q h)) (λ q. by_lt_z b a (λ r. absurd (apart b a r (sym h))) (λ r. omega (arith, ints)))
  where
    apart : (a b : ℤ) → a <ℤ b → pos d *ℤ a ≡ pos d *ℤ b → ⊥
    apart a b q h =
        let g = product_grows (pos d) (a +ℤ pos 1) b (omega (arith, ints)) (omega (arith, ints)) in
        let e = *ℤ-sum (pos d) a (pos 1) in
        omega (arith, ints)
