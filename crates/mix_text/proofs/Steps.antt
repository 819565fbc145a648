-- Reading one row more of the bids: what it makes of the reading from there on.
use Rattle.std.proofs.Common.{◌≡◌, ◌<◌, ◌≤◌, ◌+◌, ℕ, suc, List, [], ◌∷◌, ◌++◌, ℤ, length, drop, get_or, refl, sym, ap, ◌∙◌, Option, Some, None, true, false, Ok, Err, add-one, arith, nat_lt, inl, inr}
use Rattle.std.proofs.Math.Seq.{drop-cons}
use Rattle.std.proofs.lemmas.Bool.{cases_Bool}
use Rattle.std.proofs.lemmas.Bool.Decides.{nat_tests}
use Rattle.std.proofs.lemmas.List.{drop_all}
use Rattle.mix_text.specs.Rows.{RowText}
use Rattle.mix_text.specs.Bidders.{Named}
use Rattle.mix_text.specs.Reading.{◌>>=◌, NamedBid, bid_row_of, bids_from, cap_row_of, caps_from, end_from, end_of, ends_bids, is_cap_row, limit_of, read_at}
use Rattle.mix_text.specs.declared.faults.Code.{Code}
use Rattle.mix_text.specs.declared.faults.What.{What}
use Rattle.mix_text.specs.declared.faults.TextError.TheVariants as error
use Rattle.mix_text.specs.declared.formats.Limits.{Limits}

pub rows_from : (rows : List RowText) (k : ℕ) (row : RowText) → k < length rows → row ≡ get_or rows k row → drop k rows ≡ row ∷ drop (k + 1) rows
rows_from rows k row h e = rw add-one (drop-cons rows k row h ∙ ap (λ (r : RowText). r ∷ drop (suc k) rows) (sym e))

pub ends : (format : ℕ) (limits : Limits) (n : ℕ) (before : List NamedBid) (row : RowText) (rest : List RowText) → true ≡ ends_bids format row.fields
    → bids_from format limits n before (row ∷ rest) ≡ Ok (before, row ∷ rest)
unfolding bids_from
ends format limits n before row rest h = rw (← h) refl

pub bid_wrong : (format : ℕ) (limits : Limits) (n : ℕ) (before : List NamedBid) (row : RowText) (rest : List RowText) (c : Code) → false ≡ ends_bids format row.fields → bid_row_of n row.fields ≡ Err c
    → bids_from format limits n before (row ∷ rest) ≡ Err (error.Fault (record { at = row.number; code = c }))
unfolding bids_from
bid_wrong format limits n before row rest c h e = rw (← h, e) refl

pub bid_past : (format : ℕ) (limits : Limits) (n : ℕ) (before : List NamedBid) (row : RowText) (rest : List RowText) (b : NamedBid) (w : What)
    → false ≡ ends_bids format row.fields → bid_row_of n row.fields ≡ Ok b → Some w ≡ limit_of limits n before b
    → bids_from format limits n before (row ∷ rest) ≡ Err (error.Limit (record { at = row.number; what = w }))
unfolding bids_from
bid_past format limits n before row rest b w h e l = rw (← h, e, ← l) refl

pub bid_more : (format : ℕ) (limits : Limits) (n : ℕ) (before : List NamedBid) (row : RowText) (rest : List RowText) (b : NamedBid)
    → false ≡ ends_bids format row.fields → bid_row_of n row.fields ≡ Ok b → None ≡ limit_of limits n before b
    → bids_from format limits n before (row ∷ rest) ≡ bids_from format limits n (before ++ (b ∷ [])) rest
unfolding bids_from
bid_more format limits n before row rest b h e l = rw (← h, e, ← l) refl

pub none_more : (format : ℕ) (limits : Limits) (n : ℕ) (before : List NamedBid) (rows : List RowText) (k : ℕ) → length rows ≤ k
    → bids_from format limits n before (drop k rows) ≡ Ok (before, [])
unfolding bids_from
none_more format limits n before rows k h = rw (drop_all k rows h) refl

-- ---- the rows after the bids

-- no more caps: another row, or none
pub caps_end : (format : ℕ) (bidders : Named) (caps : List (Option ℤ)) (row : RowText) (rest : List RowText) → false ≡ is_cap_row format row.fields
    → caps_from format bidders caps (row ∷ rest) ≡ Ok (caps, row ∷ rest)
unfolding caps_from
caps_end format bidders caps row rest h = rw (← h) refl

pub no_more_caps : (format : ℕ) (bidders : Named) (caps : List (Option ℤ)) (rows : List RowText) (k : ℕ) → length rows ≤ k → caps_from format bidders caps (drop k rows) ≡ Ok (caps, [])
unfolding caps_from
no_more_caps format bidders caps rows k h = rw (drop_all k rows h) refl

-- a cap that can't be read
pub cap_wrong : (format : ℕ) (bidders : Named) (caps : List (Option ℤ)) (row : RowText) (rest : List RowText) (c : Code) → true ≡ is_cap_row format row.fields → cap_row_of bidders caps row.fields ≡ Err c
    → caps_from format bidders caps (row ∷ rest) ≡ Err (error.Fault (record { at = row.number; code = c }))
unfolding caps_from
cap_wrong format bidders caps row rest c h e = rw (← h, e) refl

-- one cap more
pub cap_more : (format : ℕ) (bidders : Named) (caps more : List (Option ℤ)) (row : RowText) (rest : List RowText) → true ≡ is_cap_row format row.fields → cap_row_of bidders caps row.fields ≡ Ok more
    → caps_from format bidders caps (row ∷ rest) ≡ caps_from format bidders more rest
unfolding caps_from
cap_more format bidders caps more row rest h e = rw (← h, e) refl

-- the last row stands at a place
pub end_at : (rows : List RowText) (k : ℕ) → end_from (length rows + 1) (drop k rows) ≡ (read_at rows k end_of >>= λ _. Ok (drop (k + 1) rows))
unfolding end_from
end_at rows k = elim (cases_Bool (nat_lt k (length rows))) [
  | inl t ↦ (
      let l : k < length rows = grind (arith, nat_tests) in
      let r : drop k rows ≡ get_or rows k (record { number = 0; fields = [] }) ∷ drop (k + 1) rows =
      drop-cons rows k (record { number = 0; fields = [] }) l ∙ ap (λ (j : ℕ). get_or rows k (record { number = 0; fields = [] }) ∷ drop j rows) (next k) in
      rw (t, r) refl)
  | inr f ↦ (
      let l : length rows ≤ k = grind (arith, nat_tests) in
      rw f (rw (drop_all k rows l) refl))
]
  where
    next : (k : ℕ) → suc k ≡ k + 1
    next k = omega arith
