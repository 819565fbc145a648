-- The rows of a text: its records without the empty fields at their ends, the blank ones left out, numbered from 1.
use Rattle.std.specs.Prelude.{◌==◌, ◌+◌, ◌&&◌, not, Bool, true, false, ℕ, List, [], ◌∷◌, map, filter, if◌then◌else◌}
use Rattle.csv.specs.Reading.{default_config, records}
use Rattle.csv.specs.declared.error.ErrorKind.{ErrorKind}
use Rattle.csv.specs.declared.error.ErrorKind.TheVariants as kind

-- a row: its number, and its fields, each a list of bytes
pub record RowText : Type 0 where
  pub number : ℕ
  pub fields : List (List ℕ)

-- the rows that are left after an auction, and the number that the next row would have
pub record RestText : Type 0 where
  pub rows : List RowText
  pub next : ℕ

-- whether three bytes are a byte order mark
abbrev pub is_mark : ℕ → ℕ → ℕ → Bool
is_mark a b c = (a == 0xEF) && (b == 0xBB) && (c == 0xBF)

-- a text without the byte order marks at its head
unfoldable pub unmarked : List ℕ → List ℕ
unmarked [] = []
unmarked (a ∷ []) = a ∷ []
unmarked (a ∷ b ∷ []) = a ∷ b ∷ []
unmarked (a ∷ b ∷ c ∷ rest) = if is_mark a b c then unmarked rest else a ∷ b ∷ c ∷ rest

-- whether a list is empty
abbrev pub is_empty : {X : Type 0} → List X → Bool
is_empty [] = true
is_empty (x ∷ xs) = false

-- the fields without the empty ones at the end
abbrev pub kept : List (List ℕ) → List (List ℕ)
kept [] = []
kept (field ∷ rest) = if is_empty field && is_empty (kept rest) then [] else field ∷ kept rest

-- whether a record has a field, and so isn't blank
abbrev pub is_row : List (List ℕ) → Bool
is_row fields = not (is_empty fields)

-- rows with these fields, numbered from n
abbrev pub numbered : ℕ → List (List (List ℕ)) → List RowText
numbered n [] = []
numbered n (fields ∷ rest) = record { number = n; fields = fields } ∷ numbered (n + 1) rest

-- the rows that these records leave
abbrev pub rows_left : List (List (List ℕ)) → List RowText
rows_left lines = numbered 1 (filter is_row (map kept lines))

-- the rows of a text: those that its records leave, as a reader of CSV with no header splits it
abbrev pub rows_of : List ℕ → List RowText
rows_of text = rows_left (records default_config (unmarked text))

-- an error of memory, or of the reader underneath
abbrev pub IsWantOfMemory : ErrorKind → Type 0
IsWantOfMemory (kind.Io e) = Unit {0}
IsWantOfMemory kind.OutOfMemory = Unit {0}
IsWantOfMemory (kind.UnequalLengths pos expected len) = ⊥
IsWantOfMemory (kind.Utf8 pos err) = ⊥
IsWantOfMemory (kind.Serialize text) = ⊥
IsWantOfMemory (kind.Deserialize pos err) = ⊥
