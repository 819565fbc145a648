use Rattle.std.proofs.Common.{◌≡◌, ◌∙◌, sym, ap, inr, arith, ◌<◌, ◌+◌, ℕ, ℤ, List, ◌∷◌, length, drop, Option, Ok, Err, slice_index_or}
use Rattle.std.proofs.lemmas.List.{drop_all}
use Rattle.mix_text.specs.Rows.{RowText}
use Rattle.mix_text.specs.Bidders.{Named}
use Rattle.mix_text.specs.Caps.{no_caps}
use Rattle.mix_text.specs.Reading.{caps_from}
use Rattle.mix_text.specs.declared.faults.TextError.{TextError}
use Rattle.mix_text.specs.declared.faults.TextError.TheVariants as error
use Rattle.mix_text.proofs.Steps.{cap_more, cap_wrong, caps_end, no_more_caps, rows_from}
use Rattle.mix_text.proofs.cap_reading.read_caps.Goals as goal

-- what the caps from a place on are, read from a later one whose row is known
here : (format : ℕ) (bidders : Named) (start k : ℕ) (caps : List (Option ℤ)) (rows : List RowText) (row : RowText)
    → caps_from format bidders (no_caps (length bidders)) (drop start rows) ≡ caps_from format bidders caps (drop k rows) → k < length rows → row ≡ slice_index_or rows k row
    → caps_from format bidders (no_caps (length bidders)) (drop start rows) ≡ caps_from format bidders caps (row ∷ drop (k + 1) rows)
here format bidders start k caps rows row h l e = h ∙ ap (caps_from format bidders caps) (rows_from rows k row l e)

pub returns-then-not-gives_cap-clause-read : goal.returns-then-not-gives_cap-clause-read
returns-then-not-gives_cap-clause-read c =
    let l : c.loop-k.k < length c.args.rows.now = omega arith in
    let row = c.index-rows-k.result in
    record {
      read = here _ c.args.bidders.now _ _ c.loop-k.caps _ row c.loop-k.invariant.1 l c.index-rows-k.is ∙ caps_end _ _ c.loop-k.caps row _ c.if-not-gives_cap.ensures
          ∙ ap (λ (rest : List RowText). Ok (c.loop-k.caps, rest)) (sym (rows_from _ _ row l c.index-rows-k.is));
      within = omega arith;
    }

pub returns-in-Err-clause-wrong : goal.returns-in-Err-clause-wrong
returns-in-Err-clause-wrong c =
    let l : c.loop-k.k < length c.args.rows.now = omega arith in
    let row = c.index-rows-k.result in
    let code = c.in-Err.code in
    inr (here _ c.args.bidders.now _ _ c.loop-k.caps _ row c.loop-k.invariant.1 l c.index-rows-k.is ∙ cap_wrong _ _ c.loop-k.caps row _ code c.if-not-gives_cap.ensures c.in-Err.ensures.wrong
    ∙ ap (λ (k : ℕ). Err (error.Fault (record { at = k; code = code }))) (sym c.number.ensures) ∙ ap (λ (e : TextError). Err e) (sym c.fault.ensures))

pub loop-k-preserved : goal.loop-k-preserved
loop-k-preserved c =
    let l : c.loop-k.k < length c.args.rows.now = omega arith in
    let row = c.index-rows-k.result in (
      c.in_default.ensures.size ∙ c.loop-k.invariant.0,
      here _ c.args.bidders.now _ _ c.loop-k.caps _ row c.loop-k.invariant.1 l c.index-rows-k.is ∙ cap_more _ _ c.loop-k.caps _ row _ c.if-not-gives_cap.ensures c.in_default.ensures.read,
    )

pub returns-clause-read : goal.returns-clause-read
returns-clause-read c =
    let rows = c.args.rows.now in
    record {
      read = c.loop-k.invariant.1 ∙ no_more_caps _ c.args.bidders.now c.loop-k.caps rows c.loop-k.k (omega arith) ∙ ap (λ (rest : List RowText). Ok (c.loop-k.caps, rest)) (sym (drop_all _ rows (omega arith)));
      within = omega arith;
    }
