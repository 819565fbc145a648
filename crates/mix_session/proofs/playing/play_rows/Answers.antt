use Rattle.std.proofs.Common.{◌∙◌, ◌≤◌, ◌+◌, List, ap, arith, drop, inr, length, refl}
use Rattle.mix_text.specs.Rows.{RowText}
use Rattle.mix_text.proofs.Steps.{rows_from}
use Rattle.mix_session.specs.Readings.{close_in, session_from, session_of}
use Rattle.mix_session.proofs.PlayedRows.{closed, closed_wrong, played_on, rest_of}
use Rattle.mix_session.proofs.SessionRows.{no_row}
use Rattle.mix_session.proofs.playing.play_rows.Goals as goal

pub loop-k-preserved : goal.loop-k-preserved
loop-k-preserved g c =
    let all = session_of c.args.playing.now.session.auction c.args.rest.now in
    let next = c.args.rest.now.next in
    let rows = c.args.rest.now.rows in
    let row = c.index-rows-k.result in
    let inv = c.loop-k.invariant in
    let from = rows_from rows c.loop-k.k row (rw c.rows-rows.ensures at c.loop-k-test.true) (rw c.rows-rows.ensures at c.index-rows-k.is) in
    played_on all c.loop-k.playing c.play_row.new.playing row next (drop (c.loop-k.k + 1) rows) inv.cleared inv.has c.in_ok-play_row.ensures.plays
    (inv.same ∙ ap (λ (left : List RowText). session_from c.loop-k.playing.session.auction inv.cleared next left) from)

pub returns-then-not-goes_on-clause-played : goal.returns-then-not-goes_on-clause-played
returns-then-not-goes_on-clause-played g c =
    let all = session_of c.args.playing.now.session.auction c.args.rest.now in
    let next = c.args.rest.now.next in
    let rows = c.args.rest.now.rows in
    let row = c.index-rows-k.result in
    let inv = c.loop-k.invariant in
    let from = rows_from rows c.loop-k.k row (rw c.rows-rows.ensures at c.loop-k-test.true) (rw c.rows-rows.ensures at c.index-rows-k.is) in
    closed c.close_row.result all c.loop-k.playing row next (drop (c.loop-k.k + 1) rows) inv.cleared ((rw c.rows-rows.ensures at c.close_row.ensures) ∙ ap (close_in row) (rest_of rows (c.loop-k.k + 1))) c.if-not-goes_on.ensures inv.has
    (inv.same ∙ ap (λ (left : List RowText). session_from c.loop-k.playing.session.auction inv.cleared next left) from)

pub returns-then-not-goes_on-clause-wrong : goal.returns-then-not-goes_on-clause-wrong
returns-then-not-goes_on-clause-wrong g c =
    let all = session_of c.args.playing.now.session.auction c.args.rest.now in
    let next = c.args.rest.now.next in
    let rows = c.args.rest.now.rows in
    let row = c.index-rows-k.result in
    let inv = c.loop-k.invariant in
    let from = rows_from rows c.loop-k.k row (rw c.rows-rows.ensures at c.loop-k-test.true) (rw c.rows-rows.ensures at c.index-rows-k.is) in
    closed_wrong c.close_row.result all c.loop-k.playing row next (drop (c.loop-k.k + 1) rows) inv.cleared ((rw c.rows-rows.ensures at c.close_row.ensures) ∙ ap (close_in row) (rest_of rows (c.loop-k.k + 1))) c.if-not-goes_on.ensures
    (inv.same ∙ ap (λ (left : List RowText). session_from c.loop-k.playing.session.auction inv.cleared next left) from)

pub returns-clause-wrong : goal.returns-clause-wrong
returns-clause-wrong g c =
    let inv = c.loop-k.invariant in
    let rows = c.args.rest.now.rows in
    let long = ap length c.rows-rows.ensures in
    let end : length rows ≤ c.loop-k.k = omega (arith, long, c.loop-k-test.false) in
    inr (inv.same ∙ no_row c.loop-k.playing.session.auction inv.cleared c.args.rest.now.next rows c.loop-k.k end ∙ rw (c.fault.ensures, c.next_number.ensures) refl)
