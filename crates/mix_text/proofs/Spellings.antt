-- What a field spells, case by case, and what a number or a name that was read keeps to.
use Rattle.std.proofs.Common.{◌≡◌, ◌≢◌, ◌<◌, ◌==◌, ◌&&◌, ◌≤ℤ◌, Bool, true, false, ℕ, zero, suc, ℤ, pos, neg_ℤ, List, [], ◌∷◌, get_or, arith, refl, inl, inr, Option, Some, None, Ok, Err, if◌then◌else◌}
use Rattle.std.specs.Int.Signed.{le_z}
use Rattle.std.specs.List.{list_all}
use Rattle.std.specs.Str.{IsUtf8}
use Rattle.std.proofs.lemmas.Bool.{cases_Bool}
use Rattle.std.proofs.lemmas.Bool.Decides.{nat_tests}
use Rattle.std.proofs.lemmas.Int.{ints}
use Rattle.std.proofs.lemmas.Str.{IsUtf8-from_ascii}
use Rattle.mix_text.specs.Pages.{is_printable}
use Rattle.mix_text.specs.Spelling.{is_name, is_name_byte, is_plain, spelled_name, negative_of, plain_of, value_after, between}
use Rattle.mix_text.specs.declared.faults.Code.TheVariants as code

pub plain_some : (digits : List ℕ) → is_plain digits ≡ true → plain_of digits ≡ Some (pos (value_after 0 digits))
unfolding plain_of
plain_some digits plain = rw plain refl

pub plain_none : (digits : List ℕ) → is_plain digits ≡ false → plain_of digits ≡ None
unfolding plain_of
plain_none digits other = rw other refl

pub negative_some : (digits : List ℕ) → is_plain digits ≡ true → value_after 0 digits ≢ 0 → negative_of digits ≡ Some (neg_ℤ (pos (value_after 0 digits)))
unfolding negative_of
negative_some digits plain some = let e : (value_after 0 digits == 0) ≡ false = grind (arith, nat_tests) in rw (plain, e) refl

pub negative_none : (digits : List ℕ) → is_plain digits ≡ false → negative_of digits ≡ None
unfolding negative_of
negative_none digits other = rw other refl

pub negative_zero : (digits : List ℕ) → value_after 0 digits ≡ 0 → negative_of digits ≡ None
unfolding negative_of
negative_zero digits none =
    let e : (value_after 0 digits == 0) ≡ true = grind (arith, nat_tests) in
    elim (cases_Bool (is_plain digits)) [ inl plain ↦ rw (plain, e) refl | inr other ↦ rw other refl ]

pub between_none : (low high : ℤ) → between low high None ≡ Err code.Number
unfolding between
between_none low high = refl

pub between_same : (a b c d x y : ℤ) → a ≡ b → c ≡ d → x ≡ y → between a c (Some x) ≡ between b d (Some y)
between_same a b c d x y p q r = rw (p, q, r) refl

between-tests : (low high v w : ℤ) (a b : Bool) → le_z low v ≡ a → le_z v high ≡ b → (if a && b then Ok v else Err code.Range) ≡ Ok w → (low ≤ℤ w) × (w ≤ℤ high)
between-tests low high v w true true p q e = let same : v ≡ w = cc e in rw (← same) (grind (arith, ints), grind (arith, ints))
between-tests low high v w true false p q e = cc e
between-tests low high v w false b p q e = cc e

-- a number that was read lies in its range
pub between_range : (low high : ℤ) (o : Option ℤ) (w : ℤ) → between low high o ≡ Ok w → (low ≤ℤ w) × (w ≤ℤ high)
unfolding between
between_range low high None w e = cc e
between_range low high (Some v) w e = between-tests low high v w (le_z low v) (le_z v high) refl refl e

-- and is the number that the field spells
between-value-tests : (v w : ℤ) (both : Bool) → (if both then Ok v else Err code.Range) ≡ Ok w → v ≡ w
between-value-tests v w true e = cc e
between-value-tests v w false e = cc e

pub between_value : (low high : ℤ) (o : Option ℤ) (w : ℤ) → between low high o ≡ Ok w → o ≡ Some w
unfolding between
between_value low high None w e = cc e
between_value low high (Some v) w e = let same = between-value-tests v w (le_z low v && le_z v high) e in rw same refl

-- a number in its range is read
pub between_ok : (low high w : ℤ) → low ≤ℤ w → w ≤ℤ high → between low high (Some w) ≡ Ok w
unfolding between
between_ok low high w p q =
    let a : le_z low w ≡ true = grind (arith, ints) in
    let b : le_z w high ≡ true = grind (arith, ints) in
    rw (a, b) refl

name-tests : (field name : List ℕ) (test : Bool) → is_name field ≡ test → (if test then Ok field else Err code.Name) ≡ Ok name → (name ≡ field) × (is_name name ≡ true)
name-tests field name true p e = let same : field ≡ name = cc e in rw (← same) (refl, p)
name-tests field name false p e = cc e

-- a name that was read is the field, and has the form of a name
pub name_read : (field name : List ℕ) → spelled_name field ≡ Ok name → (name ≡ field) × (is_name name ≡ true)
unfolding spelled_name
name_read field name e = name-tests field name (is_name field) refl e

-- a name is read as itself
pub name_spelled : (field : List ℕ) → is_name field ≡ true → spelled_name field ≡ Ok field
unfolding spelled_name
name_spelled field h = rw h refl

-- a name may be printed as a field
pub name_printable : (field : List ℕ) → is_name field ≡ true → is_printable field ≡ true
name_printable field h = grind (arith, nat_tests)

name_byte-ascii : (c : ℕ) → is_name_byte c ≡ true → c < 128
name_byte-ascii c h = grind (arith, nat_tests)

name_bytes-ascii : (field : List ℕ) → list_all is_name_byte field ≡ true → (i : ℕ) → get_or field i 0 < 128
name_bytes-ascii [] h i = omega arith
name_bytes-ascii (c ∷ rest) h zero = name_byte-ascii c (grind (arith, nat_tests))
name_bytes-ascii (c ∷ rest) h (suc i) = name_bytes-ascii rest (grind (arith, nat_tests)) i

-- a name is text
pub name_is_text : (field : List ℕ) → is_name field ≡ true → IsUtf8 field
name_is_text field h = IsUtf8-from_ascii field (name_bytes-ascii field (grind (arith, nat_tests)))
