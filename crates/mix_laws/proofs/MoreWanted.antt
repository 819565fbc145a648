-- More wanted: with one more bidder, or where a bidder wants no less than before.
use Rattle.std.proofs.Common.{◌≡◌, ℕ, ◌≤◌, ◌<◌, ◌⊎◌, inl, inr, ℤ, ◌+ℤ◌, List, [], ◌∷◌, ◌++◌, length, refl, arith, eq-or-lt_of_le}
use Rattle.std.proofs.lemmas.Int.{ints}
use Rattle.mix_num.specs.Vectors.{Vector}
use Rattle.mix_law.specs.Members.{KeepsLaws}
use Rattle.mix_market.specs.Lyapunov.{sum_of}
use Rattle.mix_clearing.specs.Ceilings.{AreAtMost}
use Rattle.mix_clearing.specs.Utilities.{KeepLaws}
use Rattle.mix_clearing.specs.Scarcity.{NoPriceIsLower, WantsNoLess}
use Rattle.mix_clearing.proofs.FallingUtilities.{falls-where_lawful}
use Rattle.mix_laws.proofs.ScarcerMarkets.{no_price_is_lower}

-- the utilities added, with one more among them
pub sum-with_one : (before after : List (Vector → ℤ)) (f : Vector → ℤ) (x : Vector) → sum_of (before ++ f ∷ after) x ≡ sum_of (before ++ after) x +ℤ f x
sum-with_one [] after f x = omega (arith, ints)
sum-with_one (g ∷ before) after f x = let a = sum-with_one before after f x in omega (arith, ints)

-- where there is no good, nothing is to be shown
no_goods : (utilities : List (Vector → ℤ)) (supply reserve : List ℤ) (others : List (Vector → ℤ)) (offered floor : List ℤ) → length supply ≡ 0 → NoPriceIsLower utilities supply reserve others offered floor
no_goods utilities supply reserve others offered floor e = record {
  least = λ prices later are can i h. absurd (omega arith);
  greatest = λ ceiling top prices later under can are i h. absurd (omega arith);
}

same_at-most : (n : ℕ) (xs : List ℤ) → AreAtMost n xs xs
same_at-most n xs i h = omega (arith, ints)

-- the same supply and reserves
pub more_wanted : (utilities others : List (Vector → ℤ)) (supply reserve : List ℤ) → KeepLaws (length supply) utilities → WantsNoLess (length supply) (sum_of utilities) (sum_of others)
    → NoPriceIsLower utilities supply reserve others supply reserve
more_wanted utilities others supply reserve laws wanted =
    no_price_is_lower utilities supply reserve others supply reserve laws
    (record { goods = refl; wanted = wanted; less = same_at-most (length supply) supply; higher = same_at-most (length supply) reserve })

pub one_more : (before after : List (Vector → ℤ)) (f : Vector → ℤ) (supply reserve : List ℤ) → KeepLaws (length supply) (before ++ after) → KeepsLaws (length supply) f
    → NoPriceIsLower (before ++ after) supply reserve (before ++ f ∷ after) supply reserve
one_more before after f supply reserve laws law = at (eq-or-lt_of_le (let h : 0 ≤ length supply = omega arith in h))
  where
    at : (0 ≡ length supply) ⊎ (0 < length supply) → NoPriceIsLower (before ++ after) supply reserve (before ++ f ∷ after) supply reserve
    at (inl e) = no_goods (before ++ after) supply reserve (before ++ f ∷ after) supply reserve (omega arith)
    at (inr some) = more_wanted (before ++ after) (before ++ f ∷ after) supply reserve laws (λ x y h.
        let a = sum-with_one before after f x in
        let b = sum-with_one before after f y in
        let c = falls-where_lawful (length supply) f (omega arith) law x y h in
        omega (arith, ints))

pub one_wants : (before after : List (Vector → ℤ)) (f g : Vector → ℤ) (supply reserve : List ℤ) → KeepLaws (length supply) (before ++ f ∷ after) → WantsNoLess (length supply) f g
    → NoPriceIsLower (before ++ f ∷ after) supply reserve (before ++ g ∷ after) supply reserve
one_wants before after f g supply reserve laws wants =
    more_wanted (before ++ f ∷ after) (before ++ g ∷ after) supply reserve laws (λ x y h.
    let a = sum-with_one before after f x in
    let b = sum-with_one before after f y in
    let c = sum-with_one before after g x in
    let d = sum-with_one before after g y in
    let e = wants x y h in
    omega (arith, ints))

pub one_adds : (before after : List (Vector → ℤ)) (f g : Vector → ℤ) (supply reserve : List ℤ) → KeepLaws (length supply) (before ++ f ∷ after) → KeepsLaws (length supply) g
    → NoPriceIsLower (before ++ f ∷ after) supply reserve (before ++ (λ x. f x +ℤ g x) ∷ after) supply reserve
one_adds before after f g supply reserve laws law = at (eq-or-lt_of_le (let h : 0 ≤ length supply = omega arith in h))
  where
    at : (0 ≡ length supply) ⊎ (0 < length supply) → NoPriceIsLower (before ++ f ∷ after) supply reserve (before ++ (λ x. f x +ℤ g x) ∷ after) supply reserve
    at (inl e) = no_goods (before ++ f ∷ after) supply reserve (before ++ (λ x. f x +ℤ g x) ∷ after) supply reserve (omega arith)
    at (inr some) = one_wants before after f (λ x. f x +ℤ g x) supply reserve laws (λ x y h. let c = falls-where_lawful (length supply) g (omega arith) law x y h in omega (arith, ints))

pub less_offered : (utilities : List (Vector → ℤ)) (supply reserve less : List ℤ) → KeepLaws (length supply) utilities → length less ≡ length supply → AreAtMost (length supply) less supply
    → NoPriceIsLower utilities supply reserve utilities less reserve
less_offered utilities supply reserve less laws goods under =
    no_price_is_lower utilities supply reserve utilities less reserve laws
    (record { goods = goods; wanted = λ x y h. omega (arith, ints); less = under; higher = same_at-most (length supply) reserve })

pub reserves_raised : (utilities : List (Vector → ℤ)) (supply reserve higher : List ℤ) → KeepLaws (length supply) utilities → AreAtMost (length supply) reserve higher
    → NoPriceIsLower utilities supply reserve utilities supply higher
reserves_raised utilities supply reserve higher laws over =
    no_price_is_lower utilities supply reserve utilities supply higher laws
    (record { goods = refl; wanted = λ x y h. omega (arith, ints); less = same_at-most (length supply) supply; higher = over })
