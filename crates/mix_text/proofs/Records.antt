-- All records of a text, from reading them one by one.
use Rattle.std.proofs.Common.{◌≡◌, ◌≤◌, ◌<◌, ◌+◌, ℕ, zero, suc, List, [], ◌∷◌, ◌++◌, length, sym, ◌∙◌, ap, arith, refl, Option, Some, None, Bool, true, false, inl, inr, if◌then◌else◌, map}
use Rattle.std.specs.Prelude.{filter}
use Rattle.std.proofs.lemmas.Bool.{cases_Bool}
use Rattle.std.proofs.lemmas.List.{map-append}
use Rattle.std.proofs.lemmas.List.Elements.{filter-append}
use Rattle.csv.specs.declared.parser.Config.{Config}
use Rattle.csv.specs.declared.parser.State.{State}
use Rattle.csv.specs.declared.parser.State.TheVariants as st
use Rattle.csv.specs.Machine.{Read, next_record, ends_at_end, is_end, step}
use Rattle.csv.specs.Reading.{Reached, records, records_from, records_next, default_config}
use Rattle.csv.specs.Reading.{ExplainsRead, is_flexible}
use Rattle.csv.specs.declared.reader.Reader.{Reader}
use Rattle.csv.specs.declared.error.ErrorKind.{ErrorKind}
use Rattle.csv.specs.declared.error.ErrorKind.TheVariants as kind
use Rattle.mix_text.specs.Rows.{IsWantOfMemory, RowText, is_row, kept, numbered, rows_left}

-- where the text has ended, a record leaves nothing of it, and the start of a record
at-end : (cfg : Config) (s : State) (fields : List (List ℕ)) (field : List ℕ) (p : Read)
    → next_record cfg s fields field [] ≡ Some p → (p.1 ≡ st.StartRecord) × (p.2 ≡ [])
unfolding next_record
at-end cfg s fields field p e = elim (cases_Bool (ends_at_end s)) [
  | inl t ↦ (let q = rw t at e in (cc q, cc q))
  | inr f ↦ (let q = rw f at e in cc q)
]

-- a record takes at least a byte, where there is one
pub next-shorter : (cfg : Config) (rest : List ℕ) (s : State) (fields : List (List ℕ)) (field : List ℕ) (c : ℕ) (p : Read)
    → next_record cfg s fields field (c ∷ rest) ≡ Some p → length p.2 ≤ length rest
unfolding next_record
next-shorter cfg [] s fields field c p e = elim (cases_Bool (is_end (step cfg s c).1)) [
  | inl t ↦ (let q = rw t at e in let r : p.2 ≡ [] = cc q in rw r (omega arith))
  | inr f ↦ (let q = rw f at e in rw (at-end cfg _ _ _ p q).1 (omega arith))
]
next-shorter cfg (d ∷ rest) s fields field c p e = elim (cases_Bool (is_end (step cfg s c).1)) [
  | inl t ↦ (let q = rw t at e in let r : p.2 ≡ d ∷ rest = cc q in rw r (omega arith))
  | inr f ↦ (let q = rw f at e in let h = next-shorter cfg rest _ _ _ d p q in omega arith)
]

-- no record starts at the end of a text
pub none-at-end : (cfg : Config) → next_record cfg st.StartRecord [] [] [] ≡ None
unfolding next_record
none-at-end cfg = refl

pub from-end : (cfg : Config) (n : ℕ) → records_from cfg n st.StartRecord [] ≡ []
unfolding records_from
from-end cfg zero = refl
from-end cfg (suc n) = ap (records_next (records_from cfg n)) (none-at-end cfg)

reached-end : (cfg : Config) (rs : List (List (List ℕ))) (s2 : State) (ys : List ℕ) → Reached cfg st.StartRecord [] rs s2 ys → rs ≡ []
unfolding Reached
reached-end cfg [] s2 ys h = refl
reached-end cfg (r ∷ rs) s2 ys h = let e = sym (none-at-end cfg) ∙ h.1 in cc e

-- records read in turn to the end are all records
pub are-records : (cfg : Config) (n : ℕ) (s : State) (xs : List ℕ) (rs : List (List (List ℕ))) (s2 : State) (ys : List ℕ)
    → length xs < n → Reached cfg s xs rs s2 ys → next_record cfg s2 [] [] ys ≡ None → records_from cfg n s xs ≡ rs
unfolding Reached records_from
are-records cfg zero s xs rs s2 ys lt h end = absurd (omega arith)
are-records cfg (suc n) s xs [] s2 ys lt h end = rw (h.0, h.1, end) refl
are-records cfg (suc n) s [] (r ∷ rs) s2 ys lt h end =
    let at = at-end cfg s [] [] h.0 h.1 in
    let tail = reached-end cfg rs s2 ys (rw (at.0, at.1) at h.3) in
    rw (h.1, at.0, at.1, from-end cfg n, tail, h.2) refl
are-records cfg (suc n) s (c ∷ xs) (r ∷ rs) s2 ys lt h end =
    let shorter = next-shorter cfg xs s [] [] c h.0 h.1 in
    let tail = are-records cfg n h.0.1 h.0.2 rs s2 ys (omega arith) h.3 end in
    rw (h.1, tail, h.2) refl

pub all-records : (xs : List ℕ) (rs : List (List (List ℕ))) (s2 : State) (ys : List ℕ)
    → Reached default_config st.StartRecord xs rs s2 ys → next_record default_config s2 [] [] ys ≡ None → records default_config xs ≡ rs
all-records xs rs s2 ys h end = are-records default_config (length xs + 1) st.StartRecord xs rs s2 ys (omega arith) h end

pub numbered-append : (n : ℕ) (a b : List (List (List ℕ))) → numbered n (a ++ b) ≡ numbered n a ++ numbered (n + length a) b
numbered-append n [] b = ap (λ m. numbered m b) (omega arith)
numbered-append n (x ∷ a) b =
    let e : (n + 1) + length a ≡ n + length (x ∷ a) = omega arith in
    ap (λ (t : List RowText). record { number = n; fields = x } ∷ t) (numbered-append (n + 1) a b ∙ ap (λ m. numbered (n + 1) a ++ numbered m b) e)

pub length-numbered : (n : ℕ) (a : List (List (List ℕ))) → length (numbered n a) ≡ length a
length-numbered n [] = refl
length-numbered n (x ∷ a) = ap suc (length-numbered (n + 1) a)

-- whether a record is left decides what it adds
adds-go : (n : ℕ) (keeps : Bool) (fields : List (List ℕ))
    → numbered n (if keeps then fields ∷ [] else []) ≡ (if keeps then record { number = n; fields = fields } ∷ [] else [])
adds-go n true fields = refl
adds-go n false fields = refl

filter-one : (fields : List (List ℕ)) → filter is_row (fields ∷ []) ≡ (if is_row fields then fields ∷ [] else [])
filter-one [] = refl
filter-one (f ∷ fs) = refl

-- one more record
pub rows_left-more : (recs : List (List (List ℕ))) (r : List (List ℕ))
    → rows_left (recs ++ (r ∷ [])) ≡ rows_left recs ++ (if is_row (kept r) then record { number = length (rows_left recs) + 1; fields = kept r } ∷ [] else [])
rows_left-more recs r =
    let before = filter is_row (map kept recs) in
    let len : length (rows_left recs) + 1 ≡ 1 + length before = omega (arith, length-numbered 1 before) in
    ap (numbered 1) (ap (filter is_row) (map-append kept recs (r ∷ [])) ∙ filter-append is_row (map kept recs) (kept r ∷ []))
    ∙ numbered-append 1 before (filter is_row (kept r ∷ []))
    ∙ ap (λ (t : List RowText). numbered 1 before ++ t)
    (ap (numbered (1 + length before)) (filter-one (kept r)) ∙ rw len (adds-go (1 + length before) (is_row (kept r)) (kept r)))

-- a reader that takes records of any lengths fails for memory, or for what lies under it
pub explains-memory : {R : Type 0} (rem : R → Option (List ℕ)) (a b : Reader R) (k : ErrorKind) → is_flexible a ≡ true → ExplainsRead rem a b false k → IsWantOfMemory k
explains-memory rem a b (kind.Io e) f h = tt
explains-memory rem a b kind.OutOfMemory f h = tt
explains-memory rem a b (kind.UnequalLengths pos expected len) f h = let e = sym f ∙ h.0 in cc e
explains-memory rem a b (kind.Utf8 pos err) f h = cc h.0
explains-memory rem a b (kind.Serialize text) f h = h
explains-memory rem a b (kind.Deserialize pos err) f h = h
