-- Places of the pairs of choices, in the order of their second ones and then of their first ones.
use Rattle.std.proofs.Common.{◌≡◌, ◌<◌, ◌≤◌, ◌+◌, ℕ, zero, suc, ◌⊎◌, inl, inr, ap, arith, eq-or-lt_of_le}
use Rattle.mix_bids.specs.Counted.{triangle}

triangle_rises : (a b : ℕ) → a ≤ b → triangle a ≤ triangle b
triangle_rises a zero l = let e : triangle a ≡ triangle 0 = ap triangle (let z : a ≡ 0 = omega arith in z) in omega arith
triangle_rises a (suc b) l = at (eq-or-lt_of_le l) (λ h. triangle_rises a b h)
  where
    at : (a ≡ suc b) ⊎ (a < suc b) → (a ≤ b → triangle a ≤ triangle b) → triangle a ≤ triangle (suc b)
    at (inl e) r = let q = ap triangle e in omega arith
    at (inr h) r = let q = r (omega arith) in omega arith

-- a pair stands before all pairs with a greater second choice
pub pair_before : (i j m : ℕ) → i < j → j < m → triangle j + i < triangle m
pair_before i j m l h = let r = triangle_rises (suc j) m h in omega arith

-- there are 36 pairs of the choices 0 to 8
pub pair_within : (i j : ℕ) → i < j → j ≤ 8 → triangle j + i < 36
pair_within i j l h = let r = pair_before i j 9 l (omega arith) in omega arith

pub triangle_within : (j : ℕ) → j ≤ 9 → triangle j ≤ 36
triangle_within j h = triangle_rises j 9 h
