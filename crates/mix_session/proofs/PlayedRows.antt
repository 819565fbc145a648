-- What each kind of row makes of a session that is played.
use Rattle.std.proofs.Common.{◌≡◌, ◌∙◌, ◌+◌, ◌-◌, ℕ, List, ◌∷◌, [], ◌++◌, inr, refl, Ok, Err, Result, true, false, ap, arith, drop, sym, subst, take, length}
use Rattle.std.proofs.lemmas.List.{length-drop, take_all}
use Rattle.std.specs.Prelude.{IfErr, OnOk, codes}
use Rattle.mix_text.specs.Auctions.{AuctionText}
use Rattle.mix_text.specs.Reading.{IsFromText, begins}
use Rattle.mix_text.specs.Rows.{RowText}
use Rattle.mix_text.specs.declared.faults.Code.{Code}
use Rattle.mix_text.specs.declared.faults.TextError.{TextError}
use Rattle.mix_text.specs.declared.faults.TextError.TheVariants as error
use Rattle.mix_session.specs.OutcomeTexts.{AddsOutcomeText, ArePlayed}
use Rattle.mix_session.specs.Plays.{Ends, HasCleared, IsPlaying, Plays}
use Rattle.mix_session.specs.Readings.{added_in, clear_in, close_in, drop_of, dropped_in, goes_on, session_from}
use Rattle.mix_session.specs.declared.playing.Playing.{Playing}
use Rattle.mix_session.proofs.PlayedTexts.{one_played_more, same_error}
use Rattle.mix_session.proofs.SessionRows.{asks, row_adds, row_adds_wrong, row_clears, row_clears_wrong, row_closes, row_closes_wrong, row_drops, row_drops_wrong}

-- nothing is played but the session
abbrev pub KeepsTexts : Playing → Playing → Type 0
KeepsTexts before after = (cleared : List AuctionText) → HasCleared before cleared → HasCleared after cleared

pub adds : (before after : Playing) (row : RowText) → KeepsTexts before after → true ≡ begins row.fields (codes "add") → added_in before.session.auction row ≡ Ok after.session.auction → Plays before after row
adds before after row keeps h e = λ cleared played. record {
  later = cleared;
  played = keeps cleared played;
  same = λ next rest. row_adds before.session.auction after.session.auction cleared next row rest h e;
}

pub adds_wrong : (playing : Playing) (row : RowText) (e : TextError) → true ≡ begins row.fields (codes "add") → IsFromText (added_in playing.session.auction row) e → Ends playing row e
adds_wrong playing row e h from = λ cleared played next rest.
    same_error (added_in playing.session.auction row) (session_from playing.session.auction cleared next (row ∷ rest)) e (row_adds_wrong playing.session.auction cleared next row rest e h) from

pub drops : (before after : Playing) (row : RowText) → KeepsTexts before after → false ≡ begins row.fields (codes "add") → true ≡ begins row.fields (codes "drop") → drop_of before.session.auction row.fields ≡ Ok after.session.auction
    → Plays before after row
drops before after row keeps g h e = λ cleared played. record {
  later = cleared;
  played = keeps cleared played;
  same = λ next rest. row_drops before.session.auction after.session.auction cleared next row rest g h (rw e refl);
}

pub drops_wrong : (playing : Playing) (row : RowText) (c : Code) (e : TextError) → false ≡ begins row.fields (codes "add") → true ≡ begins row.fields (codes "drop") → drop_of playing.session.auction row.fields ≡ Err c
    → e ≡ error.Fault (record { at = row.number; code = c }) → Ends playing row e
drops_wrong playing row c e g h wrong same = λ cleared played next rest.
    same_error (dropped_in playing.session.auction row) (session_from playing.session.auction cleared next (row ∷ rest)) e (row_drops_wrong playing.session.auction cleared next row rest e g h) (inr (rw (wrong, same) refl))

clears : (before after : Playing) (row : RowText) → goes_on row.fields ≡ true → false ≡ begins row.fields (codes "add") → false ≡ begins row.fields (codes "drop") → clear_in before.clears row ≡ Ok tt
    → after.clears ≡ before.clears + 1 → after.session.auction ≡ before.session.auction → AddsOutcomeText before.session.auction before.texts.items after.texts.items → Plays before after row
clears before after row on f g e count same text = λ cleared played. record {
  later = cleared ++ before.session.auction ∷ [];
  played = one_played_more cleared before.session.auction before.clears after.clears before.texts.items after.texts.items played count text;
  same = λ next rest.
      let asked : clear_in (length cleared) row ≡ Ok tt = subst (λ (n : ℕ). clear_in n row ≡ Ok tt) played.count e in
      row_clears before.session.auction cleared next row rest f g (asks row.fields on f g) asked
      ∙ ap (λ (a : AuctionText). session_from a (cleared ++ before.session.auction ∷ []) next rest) (sym same);
}

-- the same where all of it is known of a result that went well
pub clears_any : {X E : Type 0} (r : Result X E) (before after : Playing) (row : RowText) → goes_on row.fields ≡ true → false ≡ begins row.fields (codes "add") → false ≡ begins row.fields (codes "drop") → OnOk r (clear_in before.clears row ≡ Ok tt)
    → OnOk r (after.clears ≡ before.clears + 1) → OnOk r (after.session.auction ≡ before.session.auction) → OnOk r (AddsOutcomeText before.session.auction before.texts.items after.texts.items) → OnOk r (Plays before after row)
clears_any (Ok x) before after row on f g e count same text = clears before after row on f g e count same text
clears_any (Err w) before after row on f g e count same text = tt

pub clears_wrong : (playing : Playing) (row : RowText) (e : TextError) → goes_on row.fields ≡ true → false ≡ begins row.fields (codes "add") → false ≡ begins row.fields (codes "drop") → IsFromText (clear_in playing.clears row) e
    → Ends playing row e
clears_wrong playing row e on f g from = λ cleared played next rest.
    let asked = subst (λ (n : ℕ). IsFromText (clear_in n row) e) played.count from in
    same_error (clear_in (length cleared) row) (session_from playing.session.auction cleared next (row ∷ rest)) e (row_clears_wrong playing.session.auction cleared next row rest e f g (asks row.fields on f g)) asked

-- ---- all rows

-- where a row goes on, so does what has been played
pub played_on : (all : Result (List AuctionText) TextError) (before after : Playing) (row : RowText) (next : ℕ) (rest : List RowText) (cleared : List AuctionText) → HasCleared before cleared → Plays before after row
    → all ≡ session_from before.session.auction cleared next (row ∷ rest) → IsPlaying all after next rest
played_on all before after row next rest cleared has plays same =
    let goes = plays cleared has in
    record { cleared = goes.later; has = goes.played; same = same ∙ goes.same next rest }

-- the rows from a place to the end
pub rest_of : (rows : List RowText) (k : ℕ) → take (length rows - k) (drop k rows) ≡ drop k rows
rest_of rows k = take_all (length rows - k) (drop k rows) (let n = length-drop k rows in omega (arith, n))

-- where the rows are closed, all are played, or the error is what is wrong with the last ones
pub closed : (r : Result (Unit {0}) TextError) (all : Result (List AuctionText) TextError) (playing : Playing) (row : RowText) (next : ℕ) (rest : List RowText) (cleared : List AuctionText) → r ≡ close_in row rest → false ≡ goes_on row.fields
    → HasCleared playing cleared → all ≡ session_from playing.session.auction cleared next (row ∷ rest) → OnOk r (ArePlayed all playing.texts.items)
closed (Ok x) all playing row next rest cleared e h has same = record { auctions = cleared; reads = same ∙ row_closes playing.session.auction cleared next row rest h (sym e); texts = has.told }
closed (Err w) all playing row next rest cleared e h has same = tt

pub closed_wrong : (r : Result (Unit {0}) TextError) (all : Result (List AuctionText) TextError) (playing : Playing) (row : RowText) (next : ℕ) (rest : List RowText) (cleared : List AuctionText) → r ≡ close_in row rest → false ≡ goes_on row.fields
    → all ≡ session_from playing.session.auction cleared next (row ∷ rest) → IfErr r (IsFromText all)
closed_wrong (Ok x) all playing row next rest cleared e h same = tt
closed_wrong (Err w) all playing row next rest cleared e h same = inr (same ∙ row_closes_wrong playing.session.auction cleared next row rest w h (sym e))
