-- Rows of the bidders at their places, one after the other.
use Rattle.std.proofs.Common.{◌≡◌, ◌∙◌, ℕ, ◌+◌, List, [], ◌∷◌, ◌++◌, map, ap, append_assoc, arith, sym}
use Rattle.std.proofs.lemmas.List.FromFn.{map-range_with_len_more}
use Rattle.mix_num.specs.Orders.{places}
use Rattle.mix_text.specs.Pages.{line_of, printed}
use Rattle.mix_answer.proofs.PrintedPages.{printed-append, printed_alone}

-- the row of one more place
pub one_more_row : (row : ℕ → List (List ℕ)) (k : ℕ) (before : List ℕ) → (before ++ printed (map row (places k))) ++ line_of (row k) ≡ before ++ printed (map row (places (k + 1)))
one_more_row row k before =
    append_assoc before (printed (map row (places k))) (line_of (row k))
    ∙ ap (λ (t : List ℕ). before ++ t) (sym (
    ap printed (map-range_with_len_more row 0 k k (omega arith))
    ∙ printed-append (map row (places k)) (row k ∷ [])
    ∙ ap (λ (t : List ℕ). printed (map row (places k)) ++ t) (printed_alone (row k))))
