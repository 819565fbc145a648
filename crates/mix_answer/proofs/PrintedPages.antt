-- Rows that are printed one after the other.
use Rattle.std.proofs.Common.{◌≡◌, ◌∙◌, sym, ap, refl, ℕ, List, [], ◌∷◌, ◌++◌, append-nil, append_assoc}
use Rattle.mix_text.specs.Pages.{line_of, printed}

pub printed_alone : (fields : List (List ℕ)) → printed (fields ∷ []) ≡ line_of fields
printed_alone fields = append-nil (line_of fields)

pub printed-append : (rows others : List (List (List ℕ))) → printed (rows ++ others) ≡ printed rows ++ printed others
printed-append [] others = refl
printed-append (row ∷ rows) others =
    ap (λ (t : List ℕ). line_of row ++ t) (printed-append rows others) ∙ sym (append_assoc (line_of row) (printed rows) (printed others))

-- a row and those after it, on a page
pub printed_more : (ended : List ℕ) (row : List (List ℕ)) (rows : List (List (List ℕ))) → ended ++ printed (row ∷ rows) ≡ (ended ++ line_of row) ++ printed rows
printed_more ended row rows = sym (append_assoc ended (line_of row) (printed rows))
