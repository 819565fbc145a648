-- Numbers and names read in turn: what comes of those that are left, given what came of those before.
use Rattle.std.proofs.Common.{◌≡◌, ◌<◌, ◌≤◌, ◌+◌, ◌-◌, ℕ, suc, List, [], ◌∷◌, ◌++◌, length, drop, take, get_or, refl, sym, ap, ap₂, ◌∙◌, append_assoc, arith, Ok, Err, Result, append-nil}
use Rattle.std.proofs.lemmas.List.{drop-drop, drop_all, drop_more, get_or-drop}
use Rattle.mix_num.specs.Orders.{place_at}
use Rattle.mix_text.specs.Bidders.{Named, name_at, names_at}
use Rattle.mix_text.specs.declared.faults.Code.{Code}
use Rattle.mix_text.specs.Reading.{◌>>=◌, each_of, field_at}
use Rattle.mix_answer.specs.Readings.{wanted_name, wanted_names}

-- what the n - j fields from a place on give, after what came before
abbrev pub rest_of : {X : Type 0} → (List ℕ → Result X Code) → List X → ℕ → ℕ → ℕ → List (List ℕ) → Result (List X) Code
rest_of read done first n j fields = each_of read (take (n - j) (drop (first + j) fields)) >>= λ xs. Ok (done ++ xs)

-- at first it is what all give
pub rest_first : {X : Type 0} (read : List ℕ → Result X Code) (first n : ℕ) (fields : List (List ℕ)) → rest_of read [] first n 0 fields ≡ each_of read (take n (drop first fields))
rest_first {X = X} read first n fields =
    let all : n - 0 ≡ n = omega arith in
    let start : first + 0 ≡ first = omega arith in
    rw (all, start) (at (each_of read (take n (drop first fields))))
  where
    at : (r : Result (List X) Code) → (r >>= λ xs. Ok ([] ++ xs)) ≡ r
    at (Ok xs) = refl
    at (Err e) = refl

-- at last it is what came
pub rest_last : {X : Type 0} (read : List ℕ → Result X Code) (done : List X) (first n j : ℕ) (fields : List (List ℕ)) → n ≤ j → rest_of read done first n j fields ≡ Ok done
rest_last read done first n j fields h = let none : n - j ≡ 0 = omega arith in rw none (ap Ok (append-nil done))

from : (first n j : ℕ) (fields : List (List ℕ)) → j < n → first + j < length fields → take (n - j) (drop (first + j) fields) ≡ get_or fields (first + j) [] ∷ take (n - (j + 1)) (drop (first + (j + 1)) fields)
from first n j fields h l =
    let more : n - j ≡ suc (n - (j + 1)) = omega arith in
    let next : first + (j + 1) ≡ (first + j) + 1 = omega arith in
    rw (more, next, drop_more fields (first + j) [] l) refl

pub rest_next : {X : Type 0} (read : List ℕ → Result X Code) (done : List X) (first n j : ℕ) (fields : List (List ℕ)) (x : X) → j < n → first + j < length fields → read (get_or fields (first + j) []) ≡ Ok x
    → rest_of read done first n j fields ≡ rest_of read (done ++ (x ∷ [])) first n (j + 1) fields
rest_next {X = X} read done first n j fields x h l e = rw (from first n j fields h l, e) (at (each_of read (take (n - (j + 1)) (drop (first + (j + 1)) fields))))
  where
    at : (r : Result (List X) Code) → ((r >>= λ xs. Ok (x ∷ xs)) >>= λ xs. Ok (done ++ xs)) ≡ (r >>= λ xs. Ok ((done ++ (x ∷ [])) ++ xs))
    at (Ok xs) = ap Ok (sym (append_assoc done (x ∷ []) xs))
    at (Err e) = refl

pub rest_wrong : {X : Type 0} (read : List ℕ → Result X Code) (done : List X) (first n j : ℕ) (fields : List (List ℕ)) (e : Code) → j < n → first + j < length fields → read (get_or fields (first + j) []) ≡ Err e
    → rest_of read done first n j fields ≡ Err e
rest_wrong read done first n j fields e h l w = rw (from first n j fields h l, w) refl

-- ---- names in an order

-- the names from a place on, and the fields from the one after it on
names_from : (bidders : Named) (order : List ℕ) (fields : List (List ℕ)) (k : ℕ) → k < length order
    → wanted_names (names_at bidders (drop k order)) (drop (k + 1) fields) ≡ (wanted_name (name_at bidders (place_at order k)) (field_at fields (k + 1)) >>= λ _. wanted_names (names_at bidders (drop (k + 1) order)) (drop (k + 1 + 1) fields))
names_from bidders order fields k l =
    let field : field_at (drop (k + 1) fields) 0 ≡ field_at fields (k + 1) = get_or-drop (k + 1) fields 0 [] ∙ ap (λ (i : ℕ). get_or fields i []) (first k) in
    ap (λ places. wanted_names (names_at bidders places) (drop (k + 1) fields)) (drop_more order k 0 l)
    ∙ ap₂ (λ here rest. wanted_name (name_at bidders (place_at order k)) here >>= λ _. wanted_names (names_at bidders (drop (k + 1) order)) rest) field (drop-drop 1 (k + 1) fields)
  where
    first : (k : ℕ) → k + 1 + 0 ≡ k + 1
    first k = omega arith

-- a name more that is the wanted one
pub names_next : (bidders : Named) (order : List ℕ) (fields : List (List ℕ)) (k : ℕ) (u : Unit {0}) → k < length order → wanted_name (name_at bidders (place_at order k)) (field_at fields (k + 1)) ≡ Ok u
    → wanted_names (names_at bidders (drop k order)) (drop (k + 1) fields) ≡ wanted_names (names_at bidders (drop (k + 1) order)) (drop (k + 1 + 1) fields)
names_next bidders order fields k u l e = names_from bidders order fields k l ∙ ap (λ (r : Result (Unit {0}) Code). r >>= λ _. wanted_names (names_at bidders (drop (k + 1) order)) (drop (k + 1 + 1) fields)) e

-- and one that isn't
pub names_wrong : (bidders : Named) (order : List ℕ) (fields : List (List ℕ)) (k : ℕ) (c : Code) → k < length order → wanted_name (name_at bidders (place_at order k)) (field_at fields (k + 1)) ≡ Err c
    → wanted_names (names_at bidders (drop k order)) (drop (k + 1) fields) ≡ Err c
names_wrong bidders order fields k c l e = names_from bidders order fields k l ∙ ap (λ (r : Result (Unit {0}) Code). r >>= λ _. wanted_names (names_at bidders (drop (k + 1) order)) (drop (k + 1 + 1) fields)) e

-- all names were the wanted ones
pub names_last : (bidders : Named) (order : List ℕ) (fields : List (List ℕ)) (k : ℕ) → length order ≤ k → wanted_names (names_at bidders (drop k order)) fields ≡ Ok tt
names_last bidders order fields k l = ap (λ places. wanted_names (names_at bidders places) fields) (drop_all k order l)
