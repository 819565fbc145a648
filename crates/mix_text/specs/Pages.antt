-- The text that is printed, row by row.
use Rattle.std.specs.Prelude.{◌&&◌, Bool, ℕ, List, [], ◌∷◌, ◌++◌, length, nat_lt}
use Rattle.std.specs.List.{list_all}
use Rattle.mix_text.specs.Spelling.{is_name_byte}

-- a page: the bytes of its ended rows, and the fields of its open row
pub record PageText : Type 0 where
  pub ended : List ℕ
  pub fields : List (List ℕ)

-- fields, each after a comma
abbrev pub after_commas : List (List ℕ) → List ℕ
after_commas [] = []
after_commas (field ∷ rest) = 44 ∷ (field ++ after_commas rest)

-- fields joined by commas
abbrev pub joined : List (List ℕ) → List ℕ
joined [] = []
joined (field ∷ rest) = field ++ after_commas rest

-- a row as it is printed: its fields joined by commas, and a line feed
abbrev pub line_of : List (List ℕ) → List ℕ
line_of fields = joined fields ++ 10 ∷ []

-- whether a field may be printed: it has a byte, and each byte is a letter, a digit, '_', '-' or '.'
abbrev pub is_printable : List ℕ → Bool
is_printable field = nat_lt 0 (length field) && list_all is_name_byte field

-- whether a row may be printed: it has a field, and each field may be printed
abbrev pub is_printable_row : List (List ℕ) → Bool
is_printable_row fields = nat_lt 0 (length fields) && list_all is_printable fields

-- rows as they are printed, one after the other
abbrev pub printed : List (List (List ℕ)) → List ℕ
printed [] = []
printed (fields ∷ rest) = line_of fields ++ printed rest
