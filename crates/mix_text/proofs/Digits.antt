-- The number that digits write, one digit after the other, and cut off past every range.
use Rattle.std.proofs.Common.{◌≡◌, ◌<◌, ◌+◌, ◌-◌, ◌*◌, ℕ, ℤ, pos, neg_ℤ, ◌≤ℤ◌, List, [], ◌∷◌, ◌++◌, length, take, get_or, min, ◌∙◌, ap, arith, refl, Some}
use Rattle.std.proofs.lemmas.Bool.Decides.{nat_tests}
use Rattle.std.proofs.lemmas.Int.{ints}
use Rattle.std.proofs.lemmas.List.{take_more}
use Rattle.mix_text.specs.Spelling.{value_after, between}

value_after-append : (n : ℕ) (digits : List ℕ) (c : ℕ) → value_after n (digits ++ (c ∷ [])) ≡ value_after n digits * 10 + (c - 48)
value_after-append n [] c = refl
value_after-append n (d ∷ digits) c = value_after-append (n * 10 + (d - 48)) digits c

-- one more digit
pub value_after-take : (digits : List ℕ) (i : ℕ) → i < length digits → value_after 0 (take (i + 1) digits) ≡ value_after 0 (take i digits) * 10 + (get_or digits i 0 - 48)
value_after-take digits i lt = ap (value_after 0) (take_more digits i 0 lt) ∙ value_after-append 0 (take i digits) (get_or digits i 0)

-- a number past every range is outside also where it is cut off
pub capped_plain : (low high : ℤ) (v : ℕ) → high ≤ℤ pos 10000000000000
    → between low high (Some (pos (min v 100000000000000))) ≡ between low high (Some (pos v))
unfolding between
capped_plain low high v h = grind (arith, ints, nat_tests)

pub capped_negative : (low high : ℤ) (v : ℕ) → neg_ℤ (pos 10000000000000) ≤ℤ low
    → between low high (Some (neg_ℤ (pos (min v 100000000000000)))) ≡ between low high (Some (neg_ℤ (pos v)))
unfolding between
capped_negative low high v h = grind (arith, ints, nat_tests)
