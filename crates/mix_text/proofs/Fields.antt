-- The fields of a record, and those that are left of them.
use Rattle.std.proofs.Common.{◌≡◌, ◌<◌, ◌+◌, ℕ, zero, suc, List, [], ◌∷◌, ◌++◌, length, take, get_or, sym, ◌∙◌, ap, arith, refl, Some, true, false, ◌==◌}
use Rattle.std.proofs.lemmas.Bool.Decides.{nat_tests}
use Rattle.std.proofs.lemmas.List.{take_more, take_all}
use Rattle.csv.specs.Records.{field_at}
use Rattle.mix_text.specs.Rows.{kept}

-- a place that a record has
pub field-get : (fs : List (List ℕ)) (k : ℕ) → k < length fs → field_at fs k ≡ Some (get_or fs k [])
unfolding field_at
field-get [] k h = absurd (omega arith)
field-get (f ∷ fs) zero h = refl
field-get (f ∷ fs) (suc k) h = field-get fs k (omega arith)

-- an empty field at the end goes
pub kept-empty : (fs : List (List ℕ)) → kept (fs ++ ([] ∷ [])) ≡ kept fs
kept-empty [] = refl
kept-empty (f ∷ fs) = rw (kept-empty fs) refl

-- another stays, with all before it
pub kept-full : (fs : List (List ℕ)) (x : ℕ) (xs : List ℕ) → kept (fs ++ ((x ∷ xs) ∷ [])) ≡ fs ++ ((x ∷ xs) ∷ [])
kept-full [] x xs = refl
kept-full (f ∷ []) x xs = elim f as (λ v. kept (v ∷ (x ∷ xs) ∷ []) ≡ v ∷ (x ∷ xs) ∷ []) [ [] ↦ refl | y ∷ ys ↦ refl ]
kept-full (f ∷ g ∷ fs) x xs =
    let more = kept-full (g ∷ fs) x xs in
    elim f as (λ v. kept (v ∷ (g ∷ fs) ++ ((x ∷ xs) ∷ [])) ≡ v ∷ (g ∷ fs) ++ ((x ∷ xs) ∷ [])) [ [] ↦ rw more refl | y ∷ ys ↦ rw more refl ]

-- a record up to its last field
pub to-last : (fs : List (List ℕ)) (n : ℕ) → n + 1 ≡ length fs → fs ≡ take n fs ++ (get_or fs n [] ∷ [])
to-last fs n e =
    let lt : n < length fs = omega arith in
    sym (take_all (n + 1) fs (omega arith)) ∙ take_more fs n [] lt

pub kept-last-empty : (fs : List (List ℕ)) (n : ℕ) → n + 1 ≡ length fs → get_or fs n [] ≡ [] → kept (take n fs) ≡ kept fs
kept-last-empty fs n e last = sym (ap kept (to-last fs n e ∙ ap (λ (f : List ℕ). take n fs ++ (f ∷ [])) last) ∙ kept-empty (take n fs))

full-go : (fs : List (List ℕ)) (f : List ℕ) → 0 < length f → kept (fs ++ (f ∷ [])) ≡ fs ++ (f ∷ [])
full-go fs [] h = absurd (omega arith)
full-go fs (x ∷ xs) h = kept-full fs x xs

pub kept-last-full : (fs : List (List ℕ)) (n : ℕ) → n + 1 ≡ length fs → 0 < length (get_or fs n []) → kept fs ≡ fs
kept-last-full fs n e last =
    let is = to-last fs n e in
    ap kept is ∙ full-go (take n fs) (get_or fs n []) last ∙ sym is

-- what a test of a field's length says
pub some-of : (f : List ℕ) → (length f == 0) ≡ false → 0 < length f
some-of [] e = cc e
some-of (x ∷ xs) e = omega arith

pub none-of : (f : List ℕ) → (length f == 0) ≡ true → f ≡ []
none-of [] e = refl
none-of (x ∷ xs) e = grind (arith, nat_tests)
