-- Rows that are printed one after the other.
use Rattle.std.proofs.Common.{refl, [], ◌∷◌, ◌≡◌, ℕ, List, ◌++◌, sym, ◌∙◌, ap, append_assoc}
use Rattle.std.proofs.lemmas.List.{append-nil}
use Rattle.mix_text.specs.Pages.{line_of, printed}

-- four rows after what was printed before
pub four_rows : (before : List ℕ) (a b c d : List (List ℕ)) → (((before ++ line_of a) ++ line_of b) ++ line_of c) ++ line_of d ≡ before ++ printed (a ∷ b ∷ c ∷ d ∷ [])
four_rows before a b c d = simp (append_assoc, append-nil)

-- rows after rows
pub rows_append : (xs ys : List (List (List ℕ))) → printed (xs ++ ys) ≡ printed xs ++ printed ys
rows_append [] ys = refl
rows_append (x ∷ xs) ys = ap (λ (text : List ℕ). line_of x ++ text) (rows_append xs ys) ∙ sym (append_assoc (line_of x) (printed xs) (printed ys))
