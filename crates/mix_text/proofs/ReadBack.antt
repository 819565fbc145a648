-- What is printed row by row is read as these rows.
use Rattle.std.proofs.Common.{◌≡◌, ◌≤◌, ◌+◌, ◌&&◌, Bool, true, false, ℕ, zero, suc, List, [], ◌∷◌, ◌++◌, length, length-append, map, filter, nat_lt, sym, ◌∙◌, ap, arith, refl, Some}
use Rattle.std.specs.List.{list_all}
use Rattle.std.proofs.lemmas.Bool.Decides.{nat_tests}
use Rattle.csv.proofs.RoundTrip.{read-write}
use Rattle.csv.specs.Machine.{next_record}
use Rattle.csv.specs.Reading.{default_config, records, records_from, records_next}
use Rattle.csv.specs.Writing.{default_writer, row_text}
use Rattle.csv.specs.declared.parser.State.TheVariants as st
use Rattle.mix_text.specs.Pages.{is_printable, is_printable_row, joined, line_of, printed}
use Rattle.mix_text.specs.Rows.{is_mark, is_row, kept, numbered, rows_of, unmarked}
use Rattle.mix_text.specs.Spelling.{is_name_byte}
use Rattle.mix_text.proofs.PrintedRows.{row_text-plain}
use Rattle.mix_text.proofs.Records.{from-end}

both : (a b : Bool) → (a && b) ≡ true → (a ≡ true) × (b ≡ true)
both true b h = (refl, h)
both false b h = cc h

-- a row that may be printed, and those after it
row-fields : (fields : List (List ℕ)) → is_printable_row fields ≡ true → list_all is_printable fields ≡ true
row-fields fields h = (both (nat_lt 0 (length fields)) (list_all is_printable fields) h).1

first-row : (fields : List (List ℕ)) (rest : List (List (List ℕ))) → list_all is_printable_row (fields ∷ rest) ≡ true
    → (is_printable_row fields ≡ true) × (list_all is_printable_row rest ≡ true)
first-row fields rest h = both (is_printable_row fields) (list_all is_printable_row rest) h

-- a printed row has a byte, and so there are no more rows than bytes
length-printed : (lines : List (List (List ℕ))) → length lines ≤ length (printed lines)
length-printed [] = omega arith
length-printed (fields ∷ rest) =
    omega (arith, length-append (line_of fields) (printed rest), length-append (joined fields) (10 ∷ []), length-printed rest)

row-read : (x : List ℕ) (xs : List (List ℕ)) (tail : List ℕ) → is_printable_row (x ∷ xs) ≡ true
    → next_record default_config st.StartRecord [] [] (line_of (x ∷ xs) ++ tail) ≡ Some (x ∷ xs, st.StartRecord, tail)
row-read x xs tail h =
    let text : row_text default_writer (x ∷ xs) ≡ line_of (x ∷ xs) = row_text-plain false (x ∷ xs) (omega arith) (row-fields (x ∷ xs) h) in
    ap (λ (t : List ℕ). next_record default_config st.StartRecord [] [] (t ++ tail)) (sym text) ∙ read-write (x ∷ xs) tail

-- csv reads the printed rows again
records-printed : (n : ℕ) (lines : List (List (List ℕ))) → length lines ≤ n → list_all is_printable_row lines ≡ true
    → records_from default_config n st.StartRecord (printed lines) ≡ lines
unfolding records_from
records-printed zero [] few h = refl
records-printed zero (fields ∷ rest) few h = absurd (omega arith)
records-printed (suc n) [] few h = from-end default_config (suc n)
records-printed (suc n) ([] ∷ rest) few h = cc h
records-printed (suc n) ((x ∷ xs) ∷ rest) few h =
    let parts = first-row (x ∷ xs) rest h in
    ap (records_next (records_from default_config n)) (row-read x xs (printed rest) parts.0)
    ∙ ap (λ (t : List (List (List ℕ))). (x ∷ xs) ∷ t) (records-printed n rest (omega arith) parts.1)

-- a byte of a printed field begins no mark
not-marked : (b c d : ℕ) → is_name_byte b ≡ true → is_mark b c d ≡ false
not-marked b c d h = grind (arith, nat_tests)

unmarked-plain : (b : ℕ) (rest : List ℕ) → is_name_byte b ≡ true → unmarked (b ∷ rest) ≡ b ∷ rest
unfolding unmarked
unmarked-plain b [] h = refl
unmarked-plain b (c ∷ []) h = refl
unmarked-plain b (c ∷ d ∷ rest) h = rw (not-marked b c d h) refl

first-byte : (b : ℕ) (x : List ℕ) (xs : List (List ℕ)) → list_all is_printable ((b ∷ x) ∷ xs) ≡ true → is_name_byte b ≡ true
first-byte b x xs h =
    let field = (both (is_printable (b ∷ x)) (list_all is_printable xs) h).0 in
    (both (is_name_byte b) (list_all is_name_byte x) (both (nat_lt 0 (length (b ∷ x))) (list_all is_name_byte (b ∷ x)) field).1).0

unmarked-printed : (lines : List (List (List ℕ))) → list_all is_printable_row lines ≡ true → unmarked (printed lines) ≡ printed lines
unfolding unmarked
unmarked-printed [] h = refl
unmarked-printed ([] ∷ rest) h = cc h
unmarked-printed (([] ∷ xs) ∷ rest) h = let fields = row-fields ([] ∷ xs) (first-row ([] ∷ xs) rest h).0 in cc fields
unmarked-printed (((b ∷ x) ∷ xs) ∷ rest) h =
    let fields = row-fields ((b ∷ x) ∷ xs) (first-row ((b ∷ x) ∷ xs) rest h).0 in
    unmarked-plain b _ (first-byte b x xs fields)

-- no field that may be printed is empty, and so none is dropped
kept-printable : (fields : List (List ℕ)) → list_all is_printable fields ≡ true → kept fields ≡ fields
kept-printable [] h = refl
kept-printable ([] ∷ rest) h = cc h
kept-printable ((b ∷ x) ∷ rest) h = ap (λ (t : List (List ℕ)). (b ∷ x) ∷ t) (kept-printable rest (grind (arith, nat_tests)))

all-kept : (lines : List (List (List ℕ))) → list_all is_printable_row lines ≡ true → filter is_row (map kept lines) ≡ lines
all-kept [] h = refl
all-kept ([] ∷ rest) h = cc h
all-kept ((x ∷ xs) ∷ rest) h =
    let parts = first-row (x ∷ xs) rest h in
    let here = kept-printable (x ∷ xs) (row-fields (x ∷ xs) parts.0) in
    let others = all-kept rest parts.1 in
    rw (here, others) refl

-- printed rows are read as themselves, numbered from 1
pub rows_of-printed : (lines : List (List (List ℕ))) → list_all is_printable_row lines ≡ true → rows_of (printed lines) ≡ numbered 1 lines
rows_of-printed lines h =
    let text = unmarked-printed lines h in
    let read = records-printed (length (printed lines) + 1) lines (omega (arith, length-printed lines)) h in
    ap (λ (t : List ℕ). numbered 1 (filter is_row (map kept (records default_config t)))) text
    ∙ ap (λ (t : List (List (List ℕ))). numbered 1 (filter is_row (map kept t))) read
    ∙ ap (numbered 1) (all-kept lines h)
