use Rattle.std.proofs.Common.{refl}
use Rattle.std.proofs.lemmas.Result.{MatchResult-weaker, on_ok_weaker}
use Rattle.mix_session.proofs.PlayedRows.{adds, adds_wrong, clears_any, clears_wrong, drops, drops_wrong}
use Rattle.mix_session.proofs.playing.play_row.Goals as goal

pub returns-then-row_begins-clause-plays : goal.returns-then-row_begins-clause-plays
returns-then-row_begins-clause-plays g c = on_ok_weaker c.add_row.result (λ read. adds c.args.playing.now _ c.args.row.now (λ cleared played. played) c.if-row_begins.ensures read) c.add_row.ensures.read

pub returns-then-row_begins-clause-wrong : goal.returns-then-row_begins-clause-wrong
returns-then-row_begins-clause-wrong g c = MatchResult-weaker c.add_row.result c.add_row.ensures.wrong (λ x none. none) (λ e from. adds_wrong c.args.playing.now c.args.row.now e c.if-row_begins.ensures from)

pub returns-in-Ok-clause-plays : goal.returns-in-Ok-clause-plays
returns-in-Ok-clause-plays g c = drops c.args.playing.now (record { session = c.drop_row.new.session; clears = c.args.playing.now.clears; texts = c.args.playing.now.texts }) c.args.row.now (λ cleared played. played) c.if-row_begins.ensures c.if-row_begins-2.ensures c.in-Ok.ensures.read

pub returns-in-Err-clause-wrong : goal.returns-in-Err-clause-wrong
returns-in-Err-clause-wrong g c = drops_wrong c.args.playing.now c.args.row.now c.in-Err.code c.fault.result c.if-row_begins.ensures c.if-row_begins-2.ensures c.in-Err.ensures.wrong (rw (c.fault.ensures, c.number.ensures) refl)

pub returns-clause-plays : goal.returns-clause-plays
returns-clause-plays g c = clears_any c.play_clear.result c.args.playing.now c.play_clear.new.playing c.args.row.now c.requires c.if-row_begins.ensures c.if-row_begins-2.ensures
    c.play_clear.ensures.read c.play_clear.ensures.count c.play_clear.ensures.auction c.play_clear.ensures.text

pub returns-clause-wrong : goal.returns-clause-wrong
returns-clause-wrong g c = MatchResult-weaker c.play_clear.result c.play_clear.ensures.wrong (λ x none. none) (λ e from. clears_wrong c.args.playing.now c.args.row.now e c.requires c.if-row_begins.ensures c.if-row_begins-2.ensures from)
