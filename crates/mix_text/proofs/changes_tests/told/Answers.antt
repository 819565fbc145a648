use Rattle.mix_text.specs.Reading.{NamedBid}
use Rattle.mix_text.proofs.Sound.{bid_row_ok}
use Rattle.mix_text.proofs.changes_tests.told.Goals as goal

pub returns-in-Ok-clause-name : goal.returns-in-Ok-clause-name
returns-in-Ok-clause-name c =
    let b : NamedBid = record { name = c.in-Ok.told.0.bytes; bid = c.in-Ok.told.1 } in
    (bid_row_ok c.args.goods c.args.row.now.fields b c.in-Ok.ensures.read).name

pub returns-in-Ok-clause-bid : goal.returns-in-Ok-clause-bid
returns-in-Ok-clause-bid c =
    let b : NamedBid = record { name = c.in-Ok.told.0.bytes; bid = c.in-Ok.told.1 } in
    (bid_row_ok c.args.goods c.args.row.now.fields b c.in-Ok.ensures.read).bid
