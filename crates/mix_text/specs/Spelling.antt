-- How numbers and names are spelled.
use Rattle.std.specs.Prelude.{◌==◌, ◌+◌, ◌-◌, ◌*◌, ◌&&◌, ◌||◌, not, Bool, ℕ, ℤ, pos, neg_ℤ, List, [], ◌∷◌, length, slice_index, drop, if◌then◌else◌, Option, Some, None, Result, Ok, Err, nat_lt}
use Rattle.std.specs.Int.Signed.{le_z}
use Rattle.std.specs.Char.{is_ascii_digit, is_ascii_alphabetic, is_ascii_alphanumeric}
use Rattle.std.specs.List.{list_all}
use Rattle.arrayvec.specs.ArrayString.{ArrayString}
use Rattle.mix_text.specs.declared.faults.Code.{Code}
use Rattle.mix_text.specs.declared.faults.Code.TheVariants as code

-- the number that decimal digits write after those of n
abbrev pub value_after : ℕ → List ℕ → ℕ
value_after n [] = n
value_after n (c ∷ rest) = value_after (n * 10 + (c - 48)) rest

-- decimal digits, without a leading zero unless it is the one digit
abbrev pub is_plain : List ℕ → Bool
is_plain digits = nat_lt 0 (length digits) && list_all is_ascii_digit digits && (not (slice_index digits 0 == 48) || (length digits == 1))

-- the number that digits with no sign spell
unfoldable pub plain_of : List ℕ → Option ℤ
plain_of digits = if is_plain digits then Some (pos (value_after 0 digits)) else None

-- the number that digits after a minus spell: -0 is no spelling
unfoldable pub negative_of : List ℕ → Option ℤ
negative_of digits = if is_plain digits && not (value_after 0 digits == 0) then Some (neg_ℤ (pos (value_after 0 digits))) else None

-- the number that a field spells, if it spells one
abbrev pub spelled_number : List ℕ → Option ℤ
spelled_number field = if slice_index field 0 == 45 then negative_of (drop 1 field) else plain_of field

-- a number that lies from low to high
unfoldable pub between : ℤ → ℤ → Option ℤ → Result ℤ Code
between low high None = Err code.Number
between low high (Some v) = if le_z low v && le_z v high then Ok v else Err code.Range

-- a letter, a digit, '_', '-' or '.': what may stand in a name after its first byte
abbrev pub is_name_byte : ℕ → Bool
is_name_byte c = is_ascii_alphanumeric c || (c == 95) || (c == 45) || (c == 46)

-- whether a field spells a name: 1 to 32 such bytes, and the first is a letter
abbrev pub is_name : List ℕ → Bool
is_name field = nat_lt 0 (length field) && nat_lt (length field) 33 && is_ascii_alphabetic (slice_index field 0) && list_all is_name_byte field

-- the name that a field spells
unfoldable pub spelled_name : List ℕ → Result (List ℕ) Code
spelled_name field = if is_name field then Ok field else Err code.Name

-- a name as its bytes
abbrev pub name_text : Result ArrayString Code → Result (List ℕ) Code
name_text (Ok name) = Ok name.bytes
name_text (Err e) = Err e
