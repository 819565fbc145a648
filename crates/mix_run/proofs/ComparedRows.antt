-- The rows of bidders whose lists are compared with the first one.
use Rattle.std.proofs.Common.{◌≡◌, ◌↔◌, ◌∙◌, ℕ, zero, suc, ◌+◌, ◌-◌, ◌≤◌, ◌<◌, List, [], ◌∷◌, ◌++◌, refl, arith, sym, ap, subst, drop, length, take}
use Rattle.std.proofs.lemmas.List.{append-nil, append_assoc, take_more}
use Rattle.mix_bids.specs.Bids.{Book}
use Rattle.mix_canon.specs.Searches.{AreAlike, IsFirstTried, TellsApart, WhereDiffer}
use Rattle.mix_canon.specs.declared.likeness.Likeness.{Likeness}
use Rattle.mix_canon.specs.declared.likeness.Likeness.TheVariants.{Differ, Equal}
use Rattle.mix_text.specs.Bidders.{Named, bidder_at}
use Rattle.mix_text.specs.Pages.{line_of, printed}
use Rattle.mix_run.specs.command.Compare.{AreRowsOf, IsLikenessOf, IsRowOf}
use Rattle.mix_run.proofs.PrintedRows.{rows_append}

-- what a comparison answers is so
pub likeness_is : (first own : Book) (l : Likeness) → (l ≡ Equal) ↔ AreAlike first.goods first.bids own.bids → WhereDiffer (TellsApart first own) l
    → WhereDiffer (λ p a b. IsFirstTried first.goods first.bids own.bids p) l → IsLikenessOf first own l
likeness_is first own Equal e d t = e.0 refl
likeness_is first own (Differ prices a b) e d t = (d, t)

-- and so it is of the lists that were compared, known under other names
pub likeness_at : (first own f o : Book) (l m : Likeness) → f ≡ first → o ≡ own → l ≡ m → IsLikenessOf f o l → IsLikenessOf first own m
likeness_at first own f o l m p q e is = subst (IsLikenessOf first own) e (subst (λ (b : Book). IsLikenessOf first b l) q (subst (λ (b : Book). IsLikenessOf b o l) p is))

-- one row more
pub rows_more : (first : Book) (bidders : Named) (rows : List (List (List ℕ))) (b : List ℕ × Book) (row : List (List ℕ)) → AreRowsOf first bidders rows → IsRowOf first b row → AreRowsOf first (bidders ++ b ∷ []) (rows ++ row ∷ [])
rows_more first [] [] b row are is = (is, refl)
rows_more first [] (r ∷ rows) b row are is = absurd (cc)
rows_more first (c ∷ bidders) [] b row are is = absurd are
rows_more first (c ∷ bidders) (r ∷ rows) b row are is = (are.0, rows_more first bidders rows b row are.1 is)

-- the bidder at a place comes after those between the first and it
pub bidders_more : (bidders : Named) (k : ℕ) → 1 ≤ k → k < length bidders → take (k + 1 - 1) (drop 1 bidders) ≡ take (k - 1) (drop 1 bidders) ++ bidder_at bidders k ∷ []
bidders_more [] k l h = absurd (omega arith)
bidders_more (b ∷ bidders) zero l h = absurd (omega arith)
bidders_more (b ∷ bidders) (suc j) l h =
    let more : suc j + 1 - 1 ≡ j + 1 = omega arith in
    let back : suc j - 1 ≡ j = omega arith in
    ap (λ (n : ℕ). take n bidders) more ∙ take_more bidders j ([], record { goods = 0; bids = [] }) (omega arith) ∙ ap (λ (n : ℕ). take n bidders ++ bidder_at (b ∷ bidders) (suc j) ∷ []) (sym back)

pub page_more : (before old new : List ℕ) (rows : List (List (List ℕ))) (row : List (List ℕ)) → old ≡ before ++ printed rows → new ≡ old ++ line_of row → new ≡ before ++ printed (rows ++ row ∷ [])
page_more before old new rows row e f =
    f ∙ ap (λ (text : List ℕ). text ++ line_of row) e ∙ append_assoc before (printed rows) (line_of row)
    ∙ ap (λ (text : List ℕ). before ++ text) (ap (λ (last : List ℕ). printed rows ++ last) (sym (append-nil (line_of row))) ∙ sym (rows_append rows (row ∷ [])))
