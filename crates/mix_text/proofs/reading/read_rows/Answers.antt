use Rattle.std.proofs.Common.{◌∙◌, sym, ap, arith, drop, ℕ, Result}
use Rattle.mix_text.specs.Rows.{RowText}
use Rattle.mix_text.specs.Reading.{◌>>=◌, goods_at, order_from}
use Rattle.mix_text.specs.declared.faults.TextError.{TextError}
use Rattle.mix_text.proofs.CapsRead.{caps_ok, first_caps}
use Rattle.mix_text.proofs.NoCaps.{are_no_caps}
use Rattle.mix_text.proofs.TieOrders.{first_order, order_ok}
use Rattle.mix_text.proofs.SoundAuctions.{auction_ok, books_read, goods_ok}
use Rattle.mix_text.proofs.reading.read_rows.Goals as goal

pub read_amounts-requires : goal.read_amounts-requires
read_amounts-requires c = let few = (goods_ok _ _ _ c.in_ok-goods.ensures.read).few in omega (arith, c.len-count.ensures)

pub read_amounts-requires-2 : goal.read_amounts-requires-2
read_amounts-requires-2 c = let few = (goods_ok _ _ _ c.in_ok-goods.ensures.read).few in omega (arith, c.len-count.ensures)

pub read_bids-requires-clause-goods : goal.read_bids-requires-clause-goods
read_bids-requires-clause-goods c = let goods = goods_ok _ _ _ c.in_ok-goods.ensures.read in (omega (arith, c.len-count.ensures, goods.some), omega (arith, c.len-count.ensures, goods.few))

pub invariant_of-result : goal.invariant_of-result
invariant_of-result c =
    let goods = ap (λ (r : Result RowText TextError). r >>= goods_at c.limits_of-limits.result) c.in_ok-row_or_end.ensures.read ∙ c.in_ok-goods.ensures.read in
    let sound = c.limits_of-limits.ensures.sound in
    let bids = c.in_ok-gathered.ensures.read in
    let bidders = c.in_ok-gathered.gathered.bidders in
    let books = books_read _ _ _ c.args.rows.now bidders _ sound bids in
    let caps = c.in_ok-capped.ensures.read.read in
    let rest = drop c.in_ok-capped.capped.after c.args.rows.now in
    let order = c.in_ok-served.ensures.read.read in
    record {
      sound = auction_ok c.args.rows.now _ _ _ _ _ _ _ _ _ c.in_ok-gathered.gathered.end sound c.len-count.ensures (sym c.in_ok-format.ensures) goods c.in_ok-supply.ensures.read c.in_ok-reserve.ensures.read bids
          (caps_ok _ _ bidders _ _ _ books (are_no_caps bidders) caps) (λ old. first_caps _ bidders _ _ _ old caps)
          (order_ok _ bidders rest _ order) (λ e. first_order bidders rest _ (ap (λ (f : ℕ). order_from f bidders rest) (sym e) ∙ order));
    }
