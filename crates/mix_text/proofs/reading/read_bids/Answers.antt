use Rattle.std.proofs.Common.{◌≡◌, ◌∙◌, sym, ap, inr, arith, ◌<◌, ◌+◌, ℕ, List, ◌∷◌, ◌++◌, [], length, drop, Ok, Err, Result, slice_index_or}
use Rattle.std.proofs.lemmas.List.{drop_all}
use Rattle.mix_text.specs.Rows.{RowText}
use Rattle.mix_text.specs.Reading.{NamedBid, bids_from}
use Rattle.mix_text.specs.declared.faults.TextError.{TextError}
use Rattle.mix_text.specs.declared.faults.TextError.TheVariants as error
use Rattle.mix_text.specs.declared.formats.Limits.{Limits}
use Rattle.mix_text.proofs.Sound.{bid_row_ok}
use Rattle.mix_text.proofs.Steps.{bid_more, bid_past, bid_wrong, ends, none_more, rows_from}
use Rattle.mix_text.proofs.reading.read_bids.Goals as goal

-- what the text gives from the fifth row on
abbrev Reads : ℕ → Limits → ℕ → List RowText → Result (List NamedBid × List RowText) TextError → Type 0
Reads format limits n rows read = bids_from format limits n [] (drop 4 rows) ≡ read

-- the same from a place on whose row is known
here : (format : ℕ) (limits : Limits) (n k : ℕ) (rows : List RowText) (before : List NamedBid) (row : RowText) → Reads format limits n rows (bids_from format limits n before (drop k rows)) → k < length rows → row ≡ slice_index_or rows k row
    → Reads format limits n rows (bids_from format limits n before (row ∷ drop (k + 1) rows))
here format limits n k rows before row h l e = h ∙ ap (bids_from format limits n before) (rows_from rows k row l e)

pub returns-then-ends_the_bids-clause-read : goal.returns-then-ends_the_bids-clause-read
returns-then-ends_the_bids-clause-read c =
    let inv = c.loop-k.invariant in
    let l : c.loop-k.k < length c.args.rows.now = omega arith in
    let row = c.index-rows-k.result in
    record {
      bids = inv.0;
      read = here _ _ _ _ _ inv.0 row inv.2 l c.index-rows-k.is ∙ ends _ c.args.limits.now _ inv.0 row _ c.if-ends_the_bids.ensures
          ∙ ap (λ (rest : List RowText). Ok (inv.0, rest)) (sym (rows_from _ _ row l c.index-rows-k.is));
      gathered = inv.1;
      within = omega arith;
    }

pub returns-in-Err-clause-wrong : goal.returns-in-Err-clause-wrong
returns-in-Err-clause-wrong c =
    let inv = c.loop-k.invariant in
    let l : c.loop-k.k < length c.args.rows.now = omega arith in
    let code = c.in-Err.code in
    inr (here _ _ _ _ _ inv.0 c.index-rows-k.result inv.2 l c.index-rows-k.is ∙ bid_wrong _ c.args.limits.now _ inv.0 c.index-rows-k.result _ code c.if-ends_the_bids.ensures c.in-Err.ensures.wrong
    ∙ ap (λ (k : ℕ). Err (error.Fault (record { at = k; code = code }))) (sym c.number.ensures) ∙ ap (λ (e : TextError). Err e) (sym c.fault.ensures))

pub add_bid-requires-clause-bid : goal.add_bid-requires-clause-bid
add_bid-requires-clause-bid c = (bid_row_ok c.args.goods c.index-rows-k.result.fields _ c.in-Ok.ensures.read).bid

pub returns-in-Ok-Some-clause-wrong : goal.returns-in-Ok-Some-clause-wrong
returns-in-Ok-Some-clause-wrong c =
    let inv = c.loop-k.invariant in
    let l : c.loop-k.k < length c.args.rows.now = omega arith in
    let what = c.in-Ok-Some.what in
    inr (here _ _ _ _ _ inv.0 c.index-rows-k.result inv.2 l c.index-rows-k.is
    ∙ bid_past _ c.args.limits.now _ inv.0 c.index-rows-k.result _ _ what c.if-ends_the_bids.ensures c.in-Ok.ensures.read (sym c.in-Ok-Some.field-0-is ∙ c.in-Ok-Some.ensures.limit inv.0 inv.1)
    ∙ ap (λ (k : ℕ). Err (error.Limit (record { at = k; what = what }))) (sym c.number-in-Ok-Some.ensures) ∙ ap (λ (e : TextError). Err e) (sym c.limit.ensures))

pub loop-k-preserved : goal.loop-k-preserved
loop-k-preserved c =
    let inv = c.loop-k.invariant in
    let l : c.loop-k.k < length c.args.rows.now = omega arith in
    let b : NamedBid = record { name = c.in-Ok.named.0.bytes; bid = c.in-Ok.named.1 } in
    let none = c.in-Ok-None.field-0-is in (
      inv.0 ++ (b ∷ []),
      c.in-Ok-None.ensures.added inv.0 inv.1 none,
      here _ _ _ _ _ inv.0 c.index-rows-k.result inv.2 l c.index-rows-k.is
          ∙ bid_more _ c.args.limits.now _ inv.0 c.index-rows-k.result _ b c.if-ends_the_bids.ensures c.in-Ok.ensures.read (sym none ∙ c.in-Ok-None.ensures.limit inv.0 inv.1),
    )

pub returns-clause-read : goal.returns-clause-read
returns-clause-read c =
    let inv = c.loop-k.invariant in
    let rows = c.args.rows.now in
    record {
      bids = inv.0;
      read = inv.2 ∙ none_more _ c.args.limits.now _ inv.0 rows c.loop-k.k (omega arith) ∙ ap (λ (rest : List RowText). Ok (inv.0, rest)) (sym (drop_all _ rows (omega arith)));
      gathered = inv.1;
      within = omega arith;
    }
