-- A printed number: what it is made of, and what it spells.
use Rattle.std.proofs.Common.{◌≡◌, ◌≢◌, ◌<◌, ◌^◌, ◌==◌, ◌&&◌, ◌||◌, Bool, true, false, not, inl, inr, sym, ℕ, zero, suc, ℤ, pos, negsuc, neg_ℤ, List, [], ◌∷◌, length, slice_index, nat_lt, ◌∙◌, ap, arith, rules, refl, Some}
use Rattle.std.specs.List.{list_all}
use Rattle.std.specs.Char.{is_ascii_digit}
use Rattle.std.specs.Fmt.{decimal, signed_decimal}
use Rattle.std.specs.Int.RustNames.{FitsSigned}
use mir.Syntax.{w64}
use Rattle.std.proofs.lemmas.Bool.{cases_Bool}
use Rattle.std.proofs.lemmas.Bool.Decides.{nat_tests}
use Rattle.std.proofs.lemmas.Int.{ints}
use Rattle.std.proofs.lemmas.Str.Parse.{IsNumeralModel, numerals_by_fold}
use Rattle.std.proofs.lemmas.Fmt.{decimal_nonempty, digits_decimal, digits_value-decimal, first_decimal, decimal_digit, decimal-digits_value}
use Rattle.mix_text.specs.Spelling.{is_name_byte, is_plain, value_after, negative_of, plain_of, spelled_number}
use Rattle.mix_text.specs.Pages.{is_printable}
use Rattle.mix_text.proofs.Spellings.{negative_some, plain_some}

own : IsNumeralModel (λ ds. list_all is_ascii_digit ds ≡ true) (value_after 0)
own = numerals_by_fold _ (search rules) value_after (search rules)

digits-name : (ds : List ℕ) → list_all is_ascii_digit ds ≡ true → list_all is_name_byte ds ≡ true
digits-name [] h = refl
digits-name (c ∷ cs) h =
    let here : is_name_byte c ≡ true = grind (arith, nat_tests) in
    let rest = digits-name cs (grind (arith, nat_tests)) in
    rw (here, rest) refl

decimal-name : (n : ℕ) → n < 2 ^ 64 → list_all is_name_byte (decimal n) ≡ true
decimal-name n h = digits-name (decimal n) (digits_decimal own n h)

-- a printed number with no sign may be printed as a field
pub decimal_printable : (n : ℕ) → n < 2 ^ 64 → is_printable (decimal n) ≡ true
decimal_printable n h =
    let some = decimal_nonempty n h in
    let name = decimal-name n h in
    grind (arith, nat_tests)

minus-printable : (ds : List ℕ) → list_all is_name_byte ds ≡ true → is_printable (45 ∷ ds) ≡ true
minus-printable ds h = let some : nat_lt 0 (length (45 ∷ ds)) ≡ true = grind (arith, nat_tests) in rw (some, h) refl

-- and so may one with a sign
pub signed_printable : (z : ℤ) → FitsSigned w64 z → is_printable (signed_decimal z) ≡ true
signed_printable (pos n) h = decimal_printable n (omega arith)
signed_printable (negsuc n) h =
    let lt : suc n < 2 ^ 64 = omega arith in
    let name = decimal-name (suc n) lt in
    minus-printable (decimal (suc n)) name

plain-go : (ds : List ℕ) → 0 < length ds → list_all is_ascii_digit ds ≡ true → 48 < slice_index ds 0 → is_plain ds ≡ true
plain-go ds some digits first = grind (arith, nat_tests)

plain-decimal : (n : ℕ) → n < 2 ^ 64 → is_plain (decimal n) ≡ true
plain-decimal zero h = let e : decimal 0 ≡ 48 ∷ [] = decimal_digit 0 (omega arith) in rw e refl
plain-decimal (suc n) h =
    let some = decimal_nonempty (suc n) h in
    let digits = digits_decimal own (suc n) h in
    let first = first_decimal (suc n) (omega arith) h in
    plain-go (decimal (suc n)) some digits first

not-minus : (n : ℕ) → n < 2 ^ 64 → (slice_index (decimal n) 0 == 45) ≡ false
not-minus zero h = let e : decimal 0 ≡ 48 ∷ [] = decimal_digit 0 (omega arith) in rw e refl
not-minus (suc n) h = let first = first_decimal (suc n) (omega arith) h in grind (arith, nat_tests)

-- a printed number spells that number
pub number_printed : (z : ℤ) → FitsSigned w64 z → spelled_number (signed_decimal z) ≡ Some z
number_printed (pos n) h =
    let lt : n < 2 ^ 64 = omega arith in
    rw (not-minus n lt) (plain_some (decimal n) (plain-decimal n lt) ∙ ap (λ m. Some (pos m)) (digits_value-decimal own n lt))
number_printed (negsuc n) h =
    let lt : suc n < 2 ^ 64 = omega arith in
    let value = digits_value-decimal own (suc n) lt in
    let some : value_after 0 (decimal (suc n)) ≢ 0 = omega arith in
    negative_some (decimal (suc n)) (plain-decimal (suc n) lt) some ∙ ap (λ m. Some (neg_ℤ (pos m))) value

-- a test of three
three : (a b c d : Bool) → (a && b && (c || d)) ≡ true → (a ≡ true) × (b ≡ true) × (c ≡ false → d ≡ true)
three true true true d h = (refl, refl, λ e. cc e)
three true true false d h = (refl, refl, λ e. h)
three true false c d h = cc h
three false b c d h = cc h

-- digits without a leading zero are what is printed of the number that they write
plain_printed : (digits : List ℕ) → is_plain digits ≡ true → value_after 0 digits < 2 ^ 64 → decimal (value_after 0 digits) ≡ digits
plain_printed digits h small =
    let t = three (nat_lt 0 (length digits)) (list_all is_ascii_digit digits) (not (slice_index digits 0 == 48)) (length digits == 1) h in
    let some : 0 < length digits = let s = t.0 in grind (arith, nat_tests) in
    decimal-digits_value own digits t.1 some
    (λ zero. let first : not (slice_index digits 0 == 48) ≡ false = grind (arith, nat_tests) in let one = t.2 first in grind (arith, nat_tests)) small

spelled_plain : (digits : List ℕ) (v : ℤ) (test : Bool) → is_plain digits ≡ test → FitsSigned w64 v → plain_of digits ≡ Some v → digits ≡ signed_decimal v
unfolding plain_of
spelled_plain digits v true p fits e =
    let q = rw p at e in
    let same : pos (value_after 0 digits) ≡ v = cc q in
    let small : value_after 0 digits < 2 ^ 64 = omega (arith, ints) in
    sym (plain_printed digits p small) ∙ ap signed_decimal same
spelled_plain digits v false p fits e = let q = rw p at e in cc q

negative_printed : (digits : List ℕ) (n : ℕ) → is_plain digits ≡ true → value_after 0 digits ≡ n → (n == 0) ≡ false → n < 2 ^ 64 → (45 ∷ digits) ≡ signed_decimal (neg_ℤ (pos n))
negative_printed digits zero p e some small = cc some
negative_printed digits (suc n) p e some small =
    ap (λ (ds : List ℕ). 45 ∷ ds) (sym (plain_printed digits p (omega arith)) ∙ ap decimal e)

spelled_negative : (digits : List ℕ) (v : ℤ) (test none : Bool) → is_plain digits ≡ test → (value_after 0 digits == 0) ≡ none → FitsSigned w64 v → negative_of digits ≡ Some v
    → (45 ∷ digits) ≡ signed_decimal v
unfolding negative_of
spelled_negative digits v true false p z fits e =
    let q = rw (p, z) at e in
    let same : neg_ℤ (pos (value_after 0 digits)) ≡ v = cc q in
    let small : value_after 0 digits < 2 ^ 64 = omega (arith, ints) in
    negative_printed digits (value_after 0 digits) p refl z small ∙ ap signed_decimal same
spelled_negative digits v true true p z fits e = let q = rw (p, z) at e in cc q
spelled_negative digits v false none p z fits e = let q = rw p at e in cc q

-- the one spelling of a number is what is printed of it
pub number_spelled : (field : List ℕ) (v : ℤ) → FitsSigned w64 v → spelled_number field ≡ Some v → field ≡ signed_decimal v
number_spelled [] v fits e = spelled_plain [] v (is_plain []) refl fits e
number_spelled (c ∷ digits) v fits e = elim (cases_Bool (c == 45)) [
  | inl t ↦ (
      let q = rw t at e in
      let minus : c ≡ 45 = grind (arith, nat_tests) in
      rw minus (spelled_negative digits v (is_plain digits) (value_after 0 digits == 0) refl refl fits q))
  | inr f ↦ (let q = rw f at e in spelled_plain (c ∷ digits) v (is_plain (c ∷ digits)) refl fits q)
]
